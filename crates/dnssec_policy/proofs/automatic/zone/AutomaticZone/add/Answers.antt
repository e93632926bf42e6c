-- The calls stay automatic.
use Rattle.std.proofs.Common.{refl}
use Rattle.dnssec_policy.proofs.Zone.Grown.{one-added}
use Rattle.dnssec_policy.proofs.automatic.zone.AutomaticZone.add.Goals as goal

pub returns-clause-ok : goal.returns-clause-ok
returns-clause-ok c = λ name calls entries asked so.
    let on = c.in_ok-made.ensures name calls entries so.after in
    one-added name calls entries asked c.args.call 0 c.args.self.now _ _ so on
    (c.in_ok-add.ensures.ok entries on.entry so.moments
    (c.latest.ensures _ _ _ on.after.stands)) refl c.requires
