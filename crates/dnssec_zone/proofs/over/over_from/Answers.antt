-- The walk has come to the last moment of all keys, or to a key that lacks its stamp.
use Rattle.std.proofs.Common.{◌≡◌, Some, rules, sym, ◌∙◌}
use Rattle.std.specs.{List.fold, HashMap.values}
use Rattle.dnssec_zone.specs.Inner.Over.{over_at}
use Rattle.dnssec_zone.proofs.Latest.{step, walk-lost, walked}
use Rattle.dnssec_zone.proofs.over.over_from.Goals as goal

pub returns : goal.returns
returns c =
    let f = over_at c.args.roll c.args.half c.args.ttl in
    let is : Some c.loop-key.over ≡ fold (step f) (Some 0) (values c.args.keys.now) =
    search rules in
    walked f c.args.keys.now c.values-key-items.ensures.unique (Some c.loop-key.over) is

pub returns-in_err-over_for : goal.returns-in_err-over_for
returns-in_err-over_for c =
    let f = over_at c.args.roll c.args.half c.args.ttl in
    let lost = walk-lost f (Some c.loop-key.over) c.in-Some.key.now c.next.new.self
    (search rules) in
    rw c.from_residual.ensures (walked f c.args.keys.now c.values-key-items.ensures.unique _
    (sym lost ∙ search rules))
