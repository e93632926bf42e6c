-- One yes or no for each of the four published lists, and their bits.
use Rattle.std.specs.Prelude.{◌≡◌, ◌<◌, ◌&&◌, ℕ, zero, suc, ◌+◌, Bool, true, nat_eq}
use Rattle.std.specs.Prelude.{if◌then◌else◌}
use Rattle.std.specs.Int.{bit_at}
use Rattle.std.proofs.Common.{arith, refl}
use Rattle.std.proofs.lemmas.Bool.Decides.{nat_tests}

pub record ByList : Type 0 where
  pub ds : Bool
  pub dnskey : Bool
  pub dnskey_signers : Bool
  pub zone_signers : Bool

-- the yes or no of each bit
abbrev pub lists_in : ℕ → ByList
lists_in bits = record {
  ds = nat_eq (bit_at bits 0) 1;
  dnskey = nat_eq (bit_at bits 1) 1;
  dnskey_signers = nat_eq (bit_at bits 2) 1;
  zone_signers = nat_eq (bit_at bits 3) 1;
}

abbrev pub bit_if : Bool → ℕ → ℕ
bit_if is bit = if is then bit else 0

abbrev pub bits_of : ByList → ℕ
bits_of l = bit_if l.ds 1 + bit_if l.dnskey 2 + bit_if l.dnskey_signers 4
    + bit_if l.zone_signers 8

-- each number below this one passes
abbrev pub all_below : (ℕ → Bool) → ℕ → Bool
all_below passes zero = true
all_below passes (suc n) = passes n && all_below passes n

pub each-below : (passes : ℕ → Bool) (k n : ℕ) → all_below passes k ≡ true → n < k
    → passes n ≡ true
each-below passes zero n h below = grind arith
each-below passes (suc k) n h below = grind (arith, each-below passes k n)

is-eq : (a b : ℕ) → nat_eq a b ≡ true → a ≡ b
is-eq a b h = grind (arith, nat_tests)

-- so the bits come back
pub bits_of-lists_in : (n : ℕ) → n < 16 → bits_of (lists_in n) ≡ n
bits_of-lists_in n below = is-eq (bits_of (lists_in n)) n
    (each-below (λ m. nat_eq (bits_of (lists_in m)) m) 16 n refl below)
