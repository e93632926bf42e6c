-- The key has none of the numbers so far.
use Rattle.dnssec_judge.proofs.Base.{ℕ, ◌<◌, ◌≡◌, add_at}
use Rattle.dnssec_judge.proofs.sets.adds.Table.search.Given as goal

abbrev pub invariant-loop-number : goal.invariant-loop-number
invariant-loop-number l = (n : ℕ) → n < l.number → add_at l.self n ≡ l.added → ⊥
