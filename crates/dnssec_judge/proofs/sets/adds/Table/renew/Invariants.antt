-- The keys so far are known by the positions of their adds.
use Rattle.dnssec_judge.proofs.Base.{ℕ, ◌<◌, ◌≡◌, ◌≤◌, FEW, get, get_or, IsTable, nat_cmp, Some}
use Rattle.dnssec_judge.proofs.sets.adds.Table.renew.Given as goal

abbrev pub invariant-loop-number : goal.invariant-loop-number
invariant-loop-number l = record {
  ends : (n : ℕ) → n < l.number → 0 < get_or l.added-items n 0 → n < l.end;
  known : IsTable l.fn.self → (n : ℕ) → n < l.number → FEW ≤ n → 0 < get_or l.added-items n 0
      → get nat_cmp l.by_added (get_or l.added-items n 0) ≡ Some n;
}
