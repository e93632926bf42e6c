-- The adds so far are in the set.
use Rattle.std.proofs.Common.{◌≡◌, ℕ, map, drop}
use Rattle.std.specs.{Prelude.◌||◌, BTreeSet.contains, Ordering.nat_cmp}
use Rattle.dnssec_run.specs.{Changes.has_added, Published.id_of}
use Rattle.dnssec_run.proofs.between.adds.Given as goal

abbrev pub invariant-loop-key : goal.invariant-loop-key
invariant-loop-key l = (a : ℕ) →
    (contains nat_cmp l.set a || has_added (map id_of (drop l.key-index l.keys)) a)
    ≡ has_added (map id_of l.keys) a
