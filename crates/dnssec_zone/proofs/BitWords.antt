-- No bit is set if all words are 0.
use Rattle.std.proofs.Common.{◌≡◌, ℕ, false, get_or, arith}
use Rattle.std.specs.Prelude.{replicate}
use Rattle.std.proofs.lemmas.{Nat.Bits.bit_at-zero, Grind.common_steps}
use Rattle.dnssec_zone.specs.Inner.Bits.{is_set}

zero_at : (n i : ℕ) → get_or (replicate {A = ℕ} n 0) i 0 ≡ 0
zero_at n i = grind (arith, common_steps)

pub zeros : (n t : ℕ) → is_set (replicate n 0) t ≡ false
zeros n t = simp (zero_at, bit_at-zero)
