-- One of the sets has the add of each key so far.
use Rattle.std.proofs.Common.{◌≡◌, ◌||◌, ℕ, drop, map, true}
use Rattle.std.specs.{BTreeSet.contains, Ordering.nat_cmp}
use Rattle.dnssec_run.specs.{Changes.has_added, Published.id_of}
use Rattle.dnssec_run.proofs.between.have.Given as goal

abbrev pub invariant-loop-key : goal.invariant-loop-key
invariant-loop-key l = (a : ℕ) → has_added (map id_of l.keys) a ≡ true →
    ((contains nat_cmp l.one a || contains nat_cmp l.other a)
    || has_added (map id_of (drop l.key-index l.keys)) a) ≡ true
