-- The start comes with the next calls, and the roll takes the key out.
use Rattle.dnssec_policy.proofs.KeysLeave.{keys-leave}
use Rattle.dnssec_policy.proofs.laws.keys_leave.Goals as goal

pub returns : goal.returns
returns c = keys-leave
