-- The ends of the keys so far are counted.
use Rattle.std.proofs.Common.{◌≡◌, ℕ, ◌+◌}
use Rattle.std.specs.{Prelude.Option, Prelude.false, HashMap.values}
use Rattle.dnssec_zone.specs.Inner.{Ends.AreHad, Ends.is_first, Ends.number, Over.over_at}
use Rattle.dnssec_zone.proofs.Ended.{having}
use Rattle.dnssec_zone.proofs.ends.CountedEnds.of.Given as goal

-- those that are counted and those of the keys that are left are those of all keys
abbrev pub invariant-loop-key : goal.invariant-loop-key
invariant-loop-key l =
    let f = over_at l.roll l.half l.ttl in
    AreHad l.ends × ((end : Option ℕ) → is_first end ≡ false
    → number l.ends end + having f end l.key-iterator ≡ having f end (values l.keys))
