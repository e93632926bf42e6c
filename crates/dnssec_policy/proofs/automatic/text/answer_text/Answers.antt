-- The parts are those of the text.
use Rattle.std.proofs.Common.{List, ap, map, string_bytes, subst, ℕ, ◌∙◌}
use denote.Bor.{now}
use Rattle.dnssec_policy.specs.Automatic.Asking.{AnswersParts}
use Rattle.dnssec_policy.proofs.automatic.text.answer_text.Goals as goal

pub returns : goal.returns
returns c =
    subst (λ (ps : List (List ℕ)). AnswersParts ps (string_bytes c.in_ok-line.line))
    (ap (map now) c.deref.ensures.value ∙ c.in_ok-parts.ensures) c.in_ok-line.ensures
