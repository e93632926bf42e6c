use Rattle.std.proofs.Common.{◌∙◌}
use Rattle.dnssec_record.proofs.session.Session.steps.Goals as goal

pub returns : goal.returns
returns c name calls entries stands roll = c.steps.ensures roll ∙ stands.reached.steps roll
