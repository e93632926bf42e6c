-- The answer that is kept was handed out, or is too long.
use Rattle.std.proofs.Common.{ap, length, refl, string_bytes, sym, ◌∙◌}
use Rattle.keyset_c.proofs.Opened.{keeps}
use Rattle.keyset_c.proofs.questions.keyset_told.Goals as goal

pub returns-in-Some-clause-told : goal.returns-in-Some-clause-told
returns-in-Some-clause-told c = λ answered.
    keeps c.in-Some.ensures.value
    (sym (c.hand_out.ensures.written answered ∙ c.as_bytes.ensures.value))

pub returns-in-Some-clause-needed : goal.returns-in-Some-clause-needed
returns-in-Some-clause-needed c = λ short. (
  string_bytes c.in-Some.kept.now.answer,
  keeps c.in-Some.ensures.value refl,
  ap length (sym c.as_bytes.ensures.value) ∙ sym c.hand_out.ensures.length,
)
