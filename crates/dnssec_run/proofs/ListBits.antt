-- The bits of the four lists.
use Rattle.std.proofs.Common.{◌≡◌, ◌<◌, ℕ, arith, refl}
use Rattle.std.proofs.lemmas.Bool.Decides.{nat_tests}
use Rattle.std.proofs.lemmas.Nat.Bits.{bit_at-lt, bit_at_and, bit_at_or, bit_at_xor}
use Rattle.std.specs.Prelude.{Bool, true, ◌||◌, bit_and, bit_or, bit_xor, if◌then◌else◌}
use Rattle.std.specs.Prelude.{nat_eq, nat_lt}
use Rattle.std.specs.Int.{bit_at, from_bool}
use Rattle.std.specs.Prelude.{false, ◌*◌, ◌%◌}
use Rattle.dnssec_run.specs.ByList.{all_below, each-below, lists_in}
use Rattle.dnssec_run.specs.Lists.{choose, either}

-- both are tried on all bits of two lists
abbrev fits : (ℕ → ℕ → ℕ) → ℕ → ℕ → Bool
fits op a b = nat_lt (op a b) 16

is-less : (a b : ℕ) → nat_lt a b ≡ true → a < b
is-less a b h = grind (arith, nat_tests)

each-fits : (op : ℕ → ℕ → ℕ) → all_below (λ a. all_below (fits op a) 16) 16 ≡ true
    → (a b : ℕ) → a < 16 → b < 16 → op a b < 16
each-fits op all a b ha hb = is-less (op a b) 16
    (each-below (fits op a) 16 b (each-below (λ a. all_below (fits op a) 16) 16 a all ha) hb)

pub or-fits : (a b : ℕ) → a < 16 → b < 16 → bit_or a b < 16
or-fits = each-fits bit_or refl

pub chosen-fits : (s o a : ℕ) → s < 16 → o < 16 → a < 16
    → bit_xor s (bit_and (bit_xor s o) a) < 16
chosen-fits s o a hs ho ha = each-fits bit_xor refl s (bit_and (bit_xor s o) a) hs
    (each-fits bit_and refl (bit_xor s o) a (each-fits bit_xor refl s o hs ho) ha)

ruleset bits = (arith, nat_tests, bit_at-lt, bit_at_and, bit_at_or, bit_at_xor)

or-at : (a b i : ℕ) → nat_eq (bit_at (bit_or a b) i) 1
    ≡ (nat_eq (bit_at a i) 1 || nat_eq (bit_at b i) 1)
or-at a b i = grind bits

pub or-is : (a b : ℕ) → lists_in (bit_or a b) ≡ either (lists_in a) (lists_in b)
or-is a b = grind (arith, or-at a b 0, or-at a b 1, or-at a b 2, or-at a b 3)

chosen-at : (s o a i : ℕ) → nat_eq (bit_at (bit_xor s (bit_and (bit_xor s o) a)) i) 1
    ≡ (if nat_eq (bit_at a i) 1 then nat_eq (bit_at o i) 1 else nat_eq (bit_at s i) 1)
chosen-at s o a i = grind bits

pub chosen-is : (s o a : ℕ) → lists_in (bit_xor s (bit_and (bit_xor s o) a))
    ≡ choose (lists_in a) (lists_in o) (lists_in s)
chosen-is s o a =
    grind (arith, chosen-at s o a 0, chosen-at s o a 1, chosen-at s o a 2, chosen-at s o a 3)

-- a bit for each flag
pub by-flags : (a b c d : Bool)
    → lists_in (bit_or (bit_or (bit_or (from_bool a) (from_bool b * 2 % 4294967296))
    (from_bool c * 4 % 4294967296)) (from_bool d * 8 % 4294967296))
    ≡ record { ds = a; dnskey = b; dnskey_signers = c; zone_signers = d }
by-flags true true c d = grind arith
by-flags true false c d = grind arith
by-flags false true c d = grind arith
by-flags false false c d = grind arith
