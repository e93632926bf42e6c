-- The longest of the times that keys have left, and whether a wait is early by it. For waits, the
-- exchange of calls, and the laws of runs.
use Rattle.std.proofs.Common.{◌≡◌, ℕ, ◌<◌, ◌≤◌, Bool, false, List, [], ◌∷◌, map, Some, refl}
use Rattle.std.proofs.Common.{sym, ◌∙◌, max, arith}
use Rattle.std.specs.{Prelude.nat_lt, List.list_any, List.fold, FinMap.get, FinMap.values}
use Rattle.std.proofs.{lemmas.Bool.ltb-false, lemmas.Bool.Decides.nat_tests}
use Rattle.dnssec_base.specs.declared.error.Error.{Error}
use Rattle.dnssec_key.specs.Key.{KeyParts}
use Rattle.dnssec_zone.specs.Wait.{Barred, Early, Clear, early_by}
use Rattle.dnssec_zone.specs.Keys.{Keys}
use Rattle.dnssec_zone.proofs.{Quantified.some_key-found, Quantified.some_key-none}

module _ (f : KeyParts → ℕ) where
  abbrev pub above : ℕ → KeyParts → Bool
  above n k = nat_lt n (f k)

  -- ---- over a list, from a

  none_above : (ks : List KeyParts) (a n : ℕ) → fold max a (map f ks) ≤ n
      → (a ≤ n) × (list_any (above n) ks ≡ false)
  none_above [] a n h = (h, refl)
  none_above (k ∷ ks) a n h = grind (arith, nat_tests, none_above ks (max a (f k)) n h)

  at_most : (ks : List KeyParts) (a n : ℕ) → a ≤ n → list_any (above n) ks ≡ false
      → fold max a (map f ks) ≤ n
  at_most [] a n h none = h
  at_most (k ∷ ks) a n h none = grind (arith, nat_tests, at_most ks (max a (f k)) n)

  -- ---- over the keys of a set

  -- no key has more
  pub longest-bound : (keys : Keys) (q : List ℕ) (k : KeyParts) → get keys q ≡ Some k
      → f k ≤ fold max 0 (map f (values keys))
  longest-bound keys q k at = ltb-false _ (f k)
      (some_key-none (above _) keys q k (none_above (values keys) 0 _ (omega arith)).1 at)

  -- a bound of all times is no less
  pub longest-most : (keys : Keys) (n : ℕ)
      → ((q : List ℕ) (k : KeyParts) → get keys q ≡ Some k → f k ≤ n)
      → fold max 0 (map f (values keys)) ≤ n
  longest-most keys n bound = at_most (values keys) 0 n (omega arith)
      (grind (arith, nat_tests, bound, some_key-found (above n) keys))

  -- a bound that one key comes up to is the longest
  pub longest-is : (keys : Keys) (n : ℕ)
      → ((q : List ℕ) (k : KeyParts) → get keys q ≡ Some k → f k ≤ n)
      → (q : List ℕ) (k : KeyParts) → get keys q ≡ Some k → f k ≡ n
      → fold max 0 (map f (values keys)) ≡ n
  longest-is keys n bound q k at is =
      omega (arith, longest-most keys n bound, longest-bound keys q k at)

  -- the longest time of a list is known by the times that some key has more than
  pub longest-by : (ks : List KeyParts) (n : ℕ)
      → ((x : ℕ) → list_any (above x) ks ≡ nat_lt x n) → fold max 0 (map f ks) ≡ n
  longest-by ks n is = omega (
    arith,
    at_most ks 0 n (omega arith) (grind (arith, nat_tests, is n)),
    ltb-false (fold max 0 (map f ks)) n (sym (is (fold max 0 (map f ks)))
        ∙ (none_above ks 0 (fold max 0 (map f ks)) (omega arith)).1),
  )

  -- lists of which some key has more than n alike, for each n, have the same longest time
  pub longest-same : (ks ls : List KeyParts)
      → ((n : ℕ) → list_any (above n) ks ≡ list_any (above n) ls)
      → fold max 0 (map f ks) ≡ fold max 0 (map f ls)
  longest-same ks ls same = omega (
    arith,
    at_most ks 0 (fold max 0 (map f ls)) (omega arith)
        (same _ ∙ (none_above ls 0 _ (omega arith)).1),
    at_most ls 0 (fold max 0 (map f ks)) (omega arith)
        (sym (same _) ∙ (none_above ks 0 _ (omega arith)).1),
  )

-- ---- whether a wait is early by it

-- with none left a wait is clear
pub none-left : (n : ℕ) → n ≤ 0 → early_by n ≡ Clear
none-left n h = grind (arith, nat_tests)

-- and a clear wait has none left
pub clear-left : (n : ℕ) → early_by n ≡ Clear → n ≤ 0
clear-left n e = grind (arith, nat_tests)

-- with some left a wait is early by that much
pub some-left : (n : ℕ) → 0 < n → early_by n ≡ Early n
some-left n h = grind (arith, nat_tests)

-- whatever is left, no cause bars it
pub left-unbarred : (n : ℕ) (cause : Error) → early_by n ≡ Barred cause → ⊥
left-unbarred n cause e = grind (arith, nat_tests)
