-- What is kept of a wait is what a walk would find.
use Rattle.std.proofs.Common.{subst}
use Rattle.std.specs.Prelude.{IfSome}
use Rattle.dnssec_zone.specs.Inner.{Over.over_at, Reported.IsLatest}
use Rattle.dnssec_zone.specs.Keys.{keys_in_map}
use Rattle.dnssec_zone.proofs.Latest.{latest-is}
use Rattle.dnssec_zone.proofs.keys.Keys.over_from.Goals as goal

kept : (c : goal.In-Some) → IsLatest (over_at c.args.roll c.args.half c.args.ttl)
    (keys_in_map c.self.inside.map) c.in-Some.over
kept c = subst (λ o. IfSome o (IsLatest (over_at c.args.roll c.args.half c.args.ttl)
    (keys_in_map c.self.inside.map))) c.in-Some.is (c.over.ensures _ c.self.invariant.2)

pub returns-in-Some-clause-over : goal.returns-in-Some-clause-over
returns-in-Some-clause-over c = rw (← c.self.view_is)
    (latest-is c.args.roll c.args.half c.args.ttl _ _ (kept c)).0

pub returns-in-Some-clause-missing : goal.returns-in-Some-clause-missing
returns-in-Some-clause-missing c = rw (← c.self.view_is)
    (latest-is c.args.roll c.args.half c.args.ttl _ _ (kept c)).1

pub returns-in-None-clause-over : goal.returns-in-None-clause-over
returns-in-None-clause-over c = rw (← c.self.view_is)
    (latest-is c.args.roll c.args.half c.args.ttl _ _ c.over_from.ensures).0

pub returns-in-None-clause-missing : goal.returns-in-None-clause-missing
returns-in-None-clause-missing c = rw (← c.self.view_is)
    (latest-is c.args.roll c.args.half c.args.ttl _ _ c.over_from.ensures).1
