-- None of the calls is by hand.
use Rattle.dnssec_policy.proofs.ByHand.{untouched}
use Rattle.dnssec_policy.proofs.laws.automatic_runs_are_untouched.Goals as goal

pub returns : goal.returns
returns c = untouched
