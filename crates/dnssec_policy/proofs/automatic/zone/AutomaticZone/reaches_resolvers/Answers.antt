-- The calls are automatic.
use Rattle.dnssec_policy.proofs.automatic.zone.AutomaticZone.reaches_resolvers.Goals as goal

pub returns : goal.returns
returns c = λ name calls entries asked network time so are in_time is back.
    c.automatic_runs_reach_resolvers.ensures name calls entries network time
    so.after.stands.follows.records.run (so.automatic network time are in_time) is back
