-- The session stands after the calls.
use Rattle.dnssec_policy.proofs.automatic.zone.AutomaticZone.calls.Goals as goal

pub returns : goal.returns
returns c = λ name calls entries after. c.calls.ensures name calls entries after.stands
