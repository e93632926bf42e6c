-- All keys are counted.
use Rattle.std.proofs.Common.{◌≡◌, ℕ, rules}
use Rattle.std.specs.{Prelude.Option, Prelude.false, HashMap.values}
use Rattle.dnssec_zone.specs.Inner.{Ends.is_first, Ends.number, Over.over_at}
use Rattle.dnssec_zone.proofs.Ended.{ends-walked, having}
use Rattle.dnssec_zone.proofs.ends.CountedEnds.of.Goals as goal

pub returns : goal.returns
returns c =
    let f = over_at c.args.roll c.args.half c.args.ttl in
    let ends = c.loop-key.ends in
    let is : (end : Option ℕ) → is_first end ≡ false
    → number ends end ≡ having f end (values c.args.keys.now) = λ end later. search rules in
    ends-walked f c.args.keys.now c.values-key-items.ensures.unique ends
    c.loop-key.invariant.0 is
