-- The adds so far are in the set.
use Rattle.std.proofs.Common.{◌≡◌, ◌||◌, ◌==◌, ℕ, drop}
use Rattle.std.specs.{BTreeSet.contains, List.list_any, Ordering.nat_cmp}
use Rattle.dnssec_run.specs.declared.lists.Change.{Change}
use Rattle.dnssec_run.proofs.between.changed_adds.Given as goal

abbrev pub invariant-loop-change : goal.invariant-loop-change
invariant-loop-change l = (a : ℕ) →
    (contains nat_cmp l.set a
    || list_any (λ (c : Change). c.added == a) (drop l.change-index l.changes))
    ≡ list_any (λ (c : Change). c.added == a) l.changes
