-- The copy goes on by the call.
use Rattle.dnssec_policy.proofs.automatic.zone.AutomaticZone.made.Goals as goal

pub returns : goal.returns
returns c name calls entries after =
    c.in_ok-reply.ensures name calls entries (c.in_ok-calls.ensures name calls entries after)
