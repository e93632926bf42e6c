-- The changes that are left lead to what all lead to.
use Rattle.dnssec_judge.proofs.Base.{ℕ, ◌≡◌, add_at, AreNumbered, drafted, drop, has_after, has_bit}
use Rattle.dnssec_judge.proofs.Base.{IsTable}
use Rattle.dnssec_judge.specs.Bits.{has}
use Rattle.dnssec_judge.proofs.sets.held.Bits.changed.Given as goal

abbrev pub invariant-loop-change : goal.invariant-loop-change
invariant-loop-change l = IsTable l.numbers → AreNumbered l.numbers l.changes → (n : ℕ)
    → has_after l.list (drop l.change-index l.changes) (add_at l.numbers n)
    (has_bit (drafted l.self l.draft) n)
    ≡ has_after l.list l.changes (add_at l.numbers n) (has l.self n)
