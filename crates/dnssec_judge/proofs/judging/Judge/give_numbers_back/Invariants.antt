-- Numbers in use stay with their keys.
use Rattle.dnssec_judge.specs.{Adds.IsTable, Adds.add_at, Bits.in_word, Inner.Windows.is_in_use}
use Rattle.std.proofs.Common.{true, ℕ, ◌%◌, ◌/◌, ◌≡◌, ◌≢◌}
use Rattle.dnssec_judge.proofs.judging.Judge.give_numbers_back.Given as goal

abbrev pub invariant-loop-number : goal.invariant-loop-number
invariant-loop-number l = record {
  kept : l.self ≡ record (l.initial.self) { numbers = l.self.numbers };
  table : IsTable l.initial.self.numbers → IsTable l.self.numbers;
  in_use : (number : ℕ) → is_in_use l.initial.self.windows number ≡ true
      → add_at l.self.numbers number ≡ add_at l.initial.self.numbers number;
  word : l.number % 64 ≢ 0 → (n : ℕ) → n / 64 ≡ l.number / 64
      → in_word l.in_use n ≡ is_in_use l.initial.self.windows n;
}
