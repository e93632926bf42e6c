use Rattle.std.proofs.Common.{rules}
use Rattle.dnssec_key.proofs.at_key.apply_setting.Goals as goal

pub returns-in-AtParent : goal.returns-in-AtParent
returns-in-AtParent c = search rules

pub returns-in-VisibleAt : goal.returns-in-VisibleAt
returns-in-VisibleAt c = search rules
