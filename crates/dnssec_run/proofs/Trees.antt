-- The same keys in a list and in a tree.
use Rattle.std.proofs.Common.{◌≡◌, ◌∙◌, ℕ, zero, suc, Bool, true, false, cond, List, [], ◌∷◌, map}
use Rattle.std.proofs.Common.{None, Some, refl, ap, arith, string_bytes, drop, length, get_or}
use Rattle.std.proofs.Common.{subst, sym, ◌+◌}
use Rattle.std.proofs.lemmas.{List.at_drop_more, Map.Text.is_eq-slice_cmp}
use Rattle.std.specs.Prelude.{Option, T, ◌<◌, ◌^◌, ◌&&◌, nat_lt}
use Rattle.std.specs.{Str.bytes_eq, BTreeMap.is_at, FinMap.Entries.is_sorted}
use Rattle.std.specs.{Cmp.Lexicographic.slice_cmp, List.AllZip, Ordering.is_eq, Ordering.nat_cmp}
use Rattle.std.specs.{declared.string.String.String, FinMap.find, Map.keys_of, Map.lookup}
use Rattle.std.specs.{FinMap.Entries.below_all, Ordering.is_lt, String.string_cmp}
use Rattle.std.specs.List.{AllByRecursion, Sorted.IsStrictlySortedBy}
use Rattle.std.specs.declared.cmp.Ordering.TheVariants.{Less}
use Rattle.dnssec_zone.proofs.Quantified.{first}
use Rattle.dnssec_run.specs.declared.lists.{Known.Known, KeyListing.KeyListing}
use Rattle.dnssec_run.specs.Adds.{IsAscending, by_text, fits_in_order, listed_of, listing_of}
use Rattle.dnssec_run.proofs.{OneKey.same-test, Positions.none-below, Positions.order}
use Rattle.dnssec_run.proofs.Positions.{both}

-- ---- the next key of a list

-- what stands there stands there whatever stands past the end
pub there : {A : Type 0} (xs : List A) (i : ℕ) (d e : A) → i < length xs
    → get_or xs i d ≡ get_or xs i e
there [] i d e lt = absurd (omega arith)
there (x ∷ xs) zero d e lt = refl
there (x ∷ xs) (suc i) d e lt = there xs i d e (omega arith)

module _ (q : List ℕ) (keys : List Known) (i : ℕ) (k : Known)
    (lt : i < length keys) (is : get_or keys i k ≡ k) (b : Bool)
    (same : bytes_eq (string_bytes k.reference) q ≡ b) where
  pub at-next : listing_of (map listed_of (drop i keys)) q
      ≡ cond b (Some k.listing) (listing_of (map listed_of (drop (i + 1) keys)) q)
  at-next = at_drop_more (λ l. listing_of (map listed_of l) q) keys i k lt
      ∙ ap (λ (key : Known). listing_of (map listed_of (key ∷ drop (i + 1) keys)) q) is
      ∙ ap (λ b. cond b (Some k.listing) (listing_of (map listed_of (drop (i + 1) keys)) q))
      (same-test q (string_bytes k.reference) ∙ is_eq-slice_cmp (string_bytes k.reference) q ∙ same)

-- ---- keys that go from a list into a tree

-- the first of two, if there is one
abbrev pub either : Option KeyListing → Option KeyListing → Option KeyListing
either None other = other
either (Some n) other = Some n

goes-over : (b : Bool) (n : KeyListing) (rest was : Option KeyListing) → (b ≡ true → rest ≡ None)
    → either (cond b (Some n) rest) was ≡ either rest (cond b (Some n) was)
goes-over b n rest was none = grind arith

-- the first key goes over
pub one-over : (k : Known) (keys : List Known) (q : List ℕ) (was : Option KeyListing)
    → IsAscending (map listed_of (k ∷ keys))
    → either (listing_of (map listed_of (k ∷ keys)) q) was
    ≡ either (listing_of (map listed_of keys) q)
    (cond (bytes_eq (string_bytes k.reference) q) (Some k.listing) was)
one-over k keys q was up =
    let x = string_bytes k.reference in
    let same = same-test q x ∙ is_eq-slice_cmp x q in
    ap (λ b. either (cond b (Some k.listing) (listing_of (map listed_of keys) q)) was) same
    ∙ goes-over (bytes_eq x q) k.listing (listing_of (map listed_of keys) q) was
    (λ t. none-below x q (map listed_of keys) (first _ _ up) (same ∙ t))

-- ---- a copy of a tree

-- clones of the listings are the same listings
pub listings-cloned : {Y : Type 0} (es fs : List (String Y × KeyListing))
    → AllZip (λ p q. (string_bytes q.0 ≡ string_bytes p.0) × (q.1 ≡ p.1)) es fs → (q : List ℕ)
    → lookup (is_at (λ k. slice_cmp nat_cmp q (string_bytes k))) fs
    ≡ lookup (is_at (λ k. slice_cmp nat_cmp q (string_bytes k))) es
listings-cloned [] [] h q = refl
listings-cloned [] (f ∷ fs) h q = absurd h
listings-cloned (e ∷ es) [] h q = absurd h
listings-cloned (e ∷ es) (f ∷ fs) h q =
    λ i. cond (is_eq (slice_cmp nat_cmp q (h.0.0 i))) (Some (h.0.1 i))
    (listings-cloned es fs h.1 q i)

-- ---- the entries of a tree, by bytes

module _ {Y : Type 0} where
  -- what is found among them is what the tree finds; and they are in order
  pub find-by_text : (es : List (String Y × KeyListing)) (q : List ℕ)
      → find order q (by_text es) ≡ lookup (λ k. is_eq (order q (string_bytes k))) es
  find-by_text [] q = refl
  find-by_text (e ∷ es) q =
      ap (cond (is_eq (order q (string_bytes e.0))) (Some e.1)) (find-by_text es q)

  less_below : (x : String Y) (es : List (String Y × KeyListing))
      → AllByRecursion (λ y. string_cmp x y ≡ Less) (keys_of es)
      → T (below_all order (string_bytes x) (by_text es))
  less_below x [] h = tt
  less_below x (e ∷ es) h = both _ _ (subst (λ o. T (is_lt o)) (sym h.0) tt) (less_below x es h.1)

  pub ascending-by_text : (es : List (String Y × KeyListing))
      → IsStrictlySortedBy string_cmp (keys_of es)
      → IsAscending (by_text es)
  unfolding IsStrictlySortedBy
  ascending-by_text [] h = tt
  ascending-by_text (e ∷ es) h = both _ _ (less_below e.0 es h.0) (ascending-by_text es h.1)

-- the length that a tree tells is that of its entries
pub measured : {Y : Type 0} (es : List (String Y × KeyListing)) (n : ℕ)
    → IsStrictlySortedBy string_cmp (keys_of es) → n ≡ length es → n < 2 ^ 63
    → fits_in_order (by_text es) ≡ true
measured es n up is small =
    fits (is_sorted order (by_text es)) (length (by_text es)) (ascending-by_text es up)
    (let same = as-many es in omega (arith, is, small, same))
  where
    as-many : {Y : Type 0} (es : List (String Y × KeyListing)) → length (by_text es) ≡ length es
    as-many [] = refl
    as-many (e ∷ es) = ap suc (as-many es)

    fits : (b : Bool) (n : ℕ) → T b → n < 2 ^ 63 → (b && nat_lt n (2 ^ 63)) ≡ true
    fits true n up small = grind (arith, small)
    fits false n up small = absurd up
