-- What is noted of all servers is true.
use Rattle.dnssec_policy.proofs.Ends.{leaves}
use Rattle.dnssec_policy.proofs.laws.automatic_deletions_follow.Goals as goal

pub returns : goal.returns
returns c = leaves
