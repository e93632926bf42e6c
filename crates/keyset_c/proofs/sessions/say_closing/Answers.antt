-- What is too long are the last two lines.
use Rattle.std.proofs.Common.{ap, length, string_bytes, sym, ◌∙◌}
use Rattle.keyset_c.proofs.sessions.say_closing.Goals as goal

pub returns-in-Ok-clause-needed : goal.returns-in-Ok-clause-needed
returns-in-Ok-clause-needed c = λ short. (
  string_bytes c.in-Ok.text,
  c.in-Ok.ensures,
  ap length (sym c.as_bytes.ensures.value) ∙ sym c.hand_out.ensures.length,
)
