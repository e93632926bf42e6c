-- What is due is said, or something more urgent.
use Rattle.dnssec_policy.proofs.InTime.{changes-in-time, renewals-in-time}
use Rattle.dnssec_policy.proofs.laws.starts_are_in_time.Goals as goal

pub returns-clause-renewals : goal.returns-clause-renewals
returns-clause-renewals c = renewals-in-time

pub returns-clause-changes : goal.returns-clause-changes
returns-clause-changes c = changes-in-time
