-- No lifetime is too short.
use Rattle.std.proofs.Common.{◌∙◌, sym}
use Rattle.dnssec_policy.proofs.automatic.answer.check.Goals as goal

pub returns-in-None : goal.returns-in-None
returns-in-None c = λ so. sym (c.too_short.ensures so) ∙ c.in-None.is
