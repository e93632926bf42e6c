-- The delays, the waits and the lags add up.
use Rattle.dnssec_policy.proofs.RollsEnd.{rolls-end}
use Rattle.dnssec_policy.proofs.laws.rolls_end.Goals as goal

pub returns : goal.returns
returns c = rolls-end
