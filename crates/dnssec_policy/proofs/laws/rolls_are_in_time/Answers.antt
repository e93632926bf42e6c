-- Nothing older is held for longer than the highest TTL.
use Rattle.dnssec_policy.proofs.Bound.{ends-in-time, in-time, no-longer}
use Rattle.dnssec_policy.proofs.laws.rolls_are_in_time.Goals as goal

pub returns-clause-counts : goal.returns-clause-counts
returns-clause-counts c = no-longer

pub returns-clause-reports : goal.returns-clause-reports
returns-clause-reports c = in-time

pub returns-clause-ends : goal.returns-clause-ends
returns-clause-ends c = ends-in-time
