-- The place of one key in a list in order: what a search finds is taken out, or its listing is set;
-- and in the gap that it finds a key is put in. All other keys stay as they were.
use Rattle.std.proofs.Common.{◌≡◌, ◌≤◌, ◌<◌, ◌∙◌, ℕ, zero, suc, Bool, true, false, cond, List, []}
use Rattle.std.proofs.Common.{◌∷◌, map, length, get_or, Some, None, refl, sym, ap, subst, arith}
use Rattle.std.proofs.Common.{string_bytes, inl, inr, slice_set}
use Rattle.std.specs.Prelude.{Option, T, not, IsSortedBy}
use Rattle.std.specs.declared.cmp.Ordering.TheVariants.{Less, Equal, Greater}
use Rattle.std.specs.FinMap.Entries.{below_all, find-put, find-where_key, is_sorted-put}
use Rattle.std.specs.FinMap.Entries.{is_sorted-where_key, put, where_key}
use Rattle.std.specs.Ordering.{eq_by_cmp, is_eq, is_lt, ordering_index, ordering_reverse}
use Rattle.std.specs.{declared.cmp.Ordering.Ordering, Cmp.Lexicographic.nat_list_cmp_total}
use Rattle.std.specs.{Cmp.Lexicographic.bytes_decides, Option.option_map, List.insert}
use Rattle.std.specs.List.{remove, Sorted.IsNonDecreasingBy, Sorted.IsPartitionPoint}
use Rattle.std.{specs.Str.bytes_eq, proofs.lemmas.List.Sorted.searchable_from_sorted}
use Rattle.std.proofs.lemmas.{Map.Text.is_eq-slice_cmp, Bool.cases_lt}
use Rattle.dnssec_zone.proofs.Quantified.{first, second}
use Rattle.dnssec_run.specs.declared.lists.{Known.Known, KeyListing.KeyListing}
use Rattle.dnssec_run.specs.Adds.{IsAscending, IsAt, Listed, listed_of, listing_of}
use Rattle.dnssec_run.proofs.Positions.{equal-keys, order}

abbrev reference : Known → List ℕ
reference k = string_bytes k.reference

abbrev pub ids : List Known → List Listed
ids keys = map listed_of keys

-- ---- orders and look-ups

turned_eq : (o : Ordering) → is_eq (ordering_reverse o) ≡ is_eq o
turned_eq o = grind arith

equal : (o : Ordering) → is_eq o ≡ true → o ≡ Equal
equal o h = grind arith

lower : (o : Ordering) → T (is_lt o) → o ≡ Less
lower Less h = refl
lower Equal h = absurd h
lower Greater h = absurd h

module _ (r : List ℕ) where
  -- how a key stands to the reference r
  abbrev pub stands : Known → Ordering
  stands k = order (reference k) r

  turned : (x : List ℕ) (o : Ordering) → order x r ≡ o → order r x ≡ ordering_reverse o
  turned x o e = nat_list_cmp_total.antisymm r x ∙ ap ordering_reverse e

  pub same-test : (x : List ℕ) → is_eq (order r x) ≡ is_eq (order x r)
  same-test x = ap is_eq (nat_list_cmp_total.antisymm r x) ∙ turned_eq (order x r)

  abbrev other : List ℕ → Bool
  other q = not (eq_by_cmp order r q)

  abbrev others : List Listed → List Listed
  others l = where_key order other l

  -- ---- what a search finds

  stands-sorted : (keys : List Known) → IsAscending (ids keys)
      → IsSortedBy (λ a b. is_lt (order (reference a) (reference b))) keys
  stands-sorted keys h k d low high =
      subst (λ n. is_lt (order (reference (get_or keys n d)) (reference (get_or keys k d))) ≡ false)
      {x = suc k} (omega arith) (up keys h k d (omega arith))
    where
      below : (x y : List ℕ) → T (is_lt (order x y)) → is_lt (order y x) ≡ false
      below x y h = ap is_lt (nat_list_cmp_total.antisymm y x)
          ∙ ap (λ o. is_lt (ordering_reverse o)) (lower (order x y) h)

      up : (keys : List Known) → IsAscending (ids keys) → (k : ℕ) (d : Known)
          → suc k < length keys
          → is_lt (order (reference (get_or keys (suc k) d)) (reference (get_or keys k d))) ≡ false
      up [] h k d high = absurd (omega arith)
      up (x ∷ []) h k d high = absurd (omega arith)
      up (x ∷ y ∷ keys) h zero d high = below (reference x) (reference y) (first _ _ (first _ _ h))
      up (x ∷ y ∷ keys) h (suc k) d high = up (y ∷ keys) (second _ _ h) k d (omega arith)

  rising : (keys : List Known) → IsAscending (ids keys)
      → IsNonDecreasingBy (λ y. ordering_index (stands y)) keys
  rising keys h = searchable_from_sorted nat_list_cmp_total reference keys r (stands-sorted keys h)

  -- the keys before the place come before r, and the others after it
  abbrev pub IsGap : List Known → ℕ → Type 0
  IsGap keys i = IsPartitionPoint (λ y. stands y ≡ Less) (λ y. stands y ≡ Greater) keys i

  later : (x : Known) (xs : List Known) (i : ℕ) → IsGap (x ∷ xs) (suc i) → IsGap xs i
  later x xs i gap = (
    λ j d low lt. gap.0 (suc j) d (omega arith) (omega arith),
    λ j d low lt. gap.1 (suc j) d (omega arith) (omega arith),
  )

  gap-apart : (keys : List Known) (i : ℕ) → IsGap keys i → (j : ℕ) (d : Known)
      → j < length keys → is_eq (stands (get_or keys j d)) ≡ false
  gap-apart keys i gap j d lt = elim (cases_lt j i) [
    | inl low ↦ ap is_eq (gap.0 j d (omega arith) (omega arith))
    | inr high ↦ ap is_eq (gap.1 j d (omega arith) (omega arith))
  ]

  -- ---- what is done there

  inserted : (keys : List Known) (i : ℕ) (n : KeyListing) (k : Known) → i ≤ length keys
      → IsGap keys i → listed_of k ≡ (r, n) → ids (insert keys i k) ≡ put order r n (ids keys)
  inserted [] zero n k fits gap is = ap (λ (e : Listed). e ∷ []) is
  inserted [] (suc i) n k fits gap is = absurd (omega arith)
  inserted (x ∷ xs) zero n k fits gap is =
      rw (turned (reference x) Greater (gap.1 0 x (omega arith) (omega arith)))
      (ap (λ (e : Listed). e ∷ ids (x ∷ xs)) is)
  inserted (x ∷ xs) (suc i) n k fits gap is =
      rw (turned (reference x) Less (gap.0 0 x (omega arith) (omega arith)))
      (ap (λ (l : List Listed). listed_of x ∷ l)
      (inserted xs i n k (omega arith) (later x xs i gap) is))

  absent : (keys : List Known) → ((j : ℕ) (d : Known) → j < length keys
      → is_eq (stands (get_or keys j d)) ≡ false) → listing_of (ids keys) r ≡ None
  absent [] apart = refl
  absent (x ∷ xs) apart = rw (same-test (reference x) ∙ apart 0 x (omega arith))
      (absent xs (λ j d lt. apart (suc j) d (omega arith)))

  -- the key at a place has the reference r
  abbrev pub IsHere : List Known → ℕ → Type 0
  IsHere keys i = (d : Known) → stands (get_or keys i d) ≡ Equal

  all_others : (l : List Listed) → T (below_all order r l) → others l ≡ l
  all_others [] h = refl
  all_others (e ∷ es) h = rw (lower (order r e.0) (first _ _ h))
      (ap (λ (l : List Listed). e ∷ l) (all_others es (second _ _ h)))

  below_here : (x : List ℕ) (keys : List Known) (i : ℕ) → i < length keys
      → T (below_all order x (ids keys)) → IsHere keys i → T (is_lt (order x r))
  below_here x [] i fits h here = absurd (omega arith)
  below_here x (y ∷ ys) zero fits h here =
      subst (λ q. T (is_lt (order x q))) (equal-keys (reference y) r (here y)) (first _ _ h)
  below_here x (y ∷ ys) (suc i) fits h here = below_here x ys i (omega arith) (second _ _ h) here

  removed : (keys : List Known) (i : ℕ) → i < length keys → IsHere keys i
      → IsAscending (ids keys) → ids (remove keys i) ≡ others (ids keys)
  removed [] i fits here h = absurd (omega arith)
  removed (x ∷ xs) zero fits here h =
      rw (turned (reference x) Equal (here x)) (sym (all_others (ids xs)
      (subst (λ q. T (below_all order q (ids xs))) (equal-keys (reference x) r (here x))
      (first _ _ h))))
  removed (x ∷ xs) (suc i) fits here h =
      rw (turned (reference x) Less (lower (order (reference x) r)
      (below_here (reference x) xs i (omega arith) (first _ _ h) here)))
      (ap (λ (l : List Listed). listed_of x ∷ l) (removed xs i (omega arith) here (second _ _ h)))

  found-here : (keys : List Known) (i : ℕ) (d : Known) → i < length keys → IsHere keys i
      → IsAscending (ids keys) → listing_of (ids keys) r ≡ Some (get_or keys i d).listing
  found-here [] i d fits here h = absurd (omega arith)
  found-here (x ∷ xs) zero d fits here h = rw (turned (reference x) Equal (here x)) refl
  found-here (x ∷ xs) (suc i) d fits here h =
      rw (turned (reference x) Less (lower (order (reference x) r)
      (below_here (reference x) xs i (omega arith) (first _ _ h) here)))
      (found-here xs i d (omega arith) here (second _ _ h))

  -- ---- the list then

  -- a search ends at the key, or in the gap for it
  abbrev pub IsFound : List Known → ℕ → Type 0
  IsFound keys i = (i < length keys) × IsHere keys i

  abbrev pub IsMissed : List Known → ℕ → Type 0
  IsMissed keys i = (i ≤ length keys)
      × (IsNonDecreasingBy (λ y. ordering_index (stands y)) keys → IsGap keys i)

  -- a key is put in where it was missed, or in place of the one that was found
  pub puts : (old new : List Known) (i : ℕ) (n : KeyListing) (k : Known) → IsMissed old i
      → new ≡ insert old i k → listed_of k ≡ (r, n) → IsAscending (ids old)
      → ids new ≡ put order r n (ids old)
  puts old new i n k missed is key up =
      ap ids is ∙ inserted old i n k missed.0 (missed.1 (rising old up)) key

  pub replaces : (keys : List Known) (i : ℕ) (n : KeyListing) (k : Known) → i < length keys
      → IsHere keys i → listed_of k ≡ (r, n) → IsAscending (ids keys)
      → ids (slice_set keys i k) ≡ put order r n (ids keys)
  replaces [] i n k fits here key up = absurd (omega arith)
  replaces (x ∷ xs) zero n k fits here key up =
      rw (turned (reference x) Equal (here x))
      (ap (λ (e : Listed). e ∷ ids xs) (key
      ∙ ap (λ (q : List ℕ). (q, n)) (sym (equal-keys (reference x) r (here x)))))
  replaces (x ∷ xs) (suc i) n k fits here key up =
      rw (turned (reference x) Less (lower (order (reference x) r)
      (below_here (reference x) xs i (omega arith) (first _ _ up) here)))
      (ap (λ (l : List Listed). listed_of x ∷ l)
      (replaces xs i n k (omega arith) here key (second _ _ up)))

  pub put-ascending : (old new : List Listed) (n : KeyListing) → new ≡ put order r n old
      → IsAscending old → IsAscending new
  put-ascending old new n is up = rw is (is_sorted-put order nat_list_cmp_total r n old up)

  pub put-found : (old new : List Listed) (n : KeyListing) → new ≡ put order r n old → (q : List ℕ)
      → listing_of new q ≡ cond (bytes_eq r q) (Some n) (listing_of old q)
  put-found old new n is q = rw (is, find-put order nat_list_cmp_total q r n old, ← same-test q)
      (rw (is_eq-slice_cmp r q) refl)

  -- ---- a key is taken out

  takes : (old new : List Known) (i : ℕ) → IsFound old i → new ≡ remove old i
      → IsAscending (ids old) → ids new ≡ others (ids old)
  takes old new i found is up = ap ids is ∙ removed old i found.0 found.1 up

  pub takes-ascending : (old new : List Known) (i : ℕ) → IsFound old i → new ≡ remove old i
      → IsAscending (ids old) → IsAscending (ids new)
  takes-ascending old new i found is up =
      rw (takes old new i found is up) (is_sorted-where_key order other (ids old) up)

  not-there : (b : Bool) (was : Option KeyListing) → cond (not b) was None ≡ cond b None was
  not-there b was = grind arith

  pub takes-key : (old new : List Known) (i : ℕ) → IsFound old i → new ≡ remove old i
      → IsAscending (ids old) → (q : List ℕ)
      → listing_of (ids new) q ≡ cond (bytes_eq r q) None (listing_of (ids old) q)
  takes-key old new i found is up q = rw (
    takes old new i found is up,
    find-where_key order other q (λ x e. ap other (sym (equal-keys q x e))) (ids old),
    is_eq-slice_cmp r q,
  ) (not-there (bytes_eq r q) (listing_of (ids old) q))

  -- a key that isn't there needn't be taken out, and has no listing to set
  same-at : (at : List ℕ → Option KeyListing) → at r ≡ None
      → (q : List ℕ) → at q ≡ cond (bytes_eq r q) None (at q)
  same-at at none q = grind (arith, bytes_decides)

  pub leaves-gap : (keys : List Known) (i : ℕ) → IsMissed keys i → IsAscending (ids keys)
      → (q : List ℕ) → listing_of (ids keys) q
      ≡ cond (bytes_eq r q) None (listing_of (ids keys) q)
  leaves-gap keys i missed up =
      same-at (listing_of (ids keys)) (absent keys (gap-apart keys i (missed.1 (rising keys up))))

  pub sets-none : (f : KeyListing → KeyListing) (at : List ℕ → Option KeyListing) → at r ≡ None
      → (q : List ℕ) → at q ≡ cond (bytes_eq r q) (option_map f (at q)) (at q)
  sets-none f at none q = grind (arith, bytes_decides)

  -- ---- a key that is there gets another listing

  pub here-at : (keys : List Known) (i : ℕ) → IsAt keys i r → IsHere keys i
  here-at keys i at d =
      equal _ (is_eq-slice_cmp (reference (get_or keys i d)) r ∙ at.1 d)

  pub sets-some : (f : KeyListing → KeyListing) (n : KeyListing)
      (at : List ℕ → Option KeyListing) (q : List ℕ)
      → at r ≡ Some n → cond (bytes_eq r q) (Some (f n)) (at q)
      ≡ cond (bytes_eq r q) (option_map f (at q)) (at q)
  sets-some f n at q some = grind (arith, bytes_decides)

  module _ (f : KeyListing → KeyListing) (old : List Known) (i : ℕ) (was : Known) (n : KeyListing)
      (at : IsAt old i r) (is : was ≡ get_or old i was) (now : n ≡ f was.listing)
      (up : IsAscending (ids old)) where
    pub listing-at : listing_of (ids old) r ≡ Some was.listing
    listing-at = found-here old i was at.0 (here-at old i at) up
        ∙ ap (λ (k : Known). Some k.listing) (sym is)

    set-put : ids (slice_set old i record { listing = n; reference = was.reference })
        ≡ put order r n (ids old)
    set-put = replaces old i n record { listing = n; reference = was.reference } at.0
        (here-at old i at) (ap (λ (x : List ℕ). (x, n)) (ap reference is
        ∙ equal-keys (reference (get_or old i was)) r (here-at old i at was))) up

    pub set-ascending
        : IsAscending (ids (slice_set old i record { listing = n; reference = was.reference }))
    set-ascending = put-ascending (ids old) _ n set-put up

    pub set-found : (q : List ℕ)
        → listing_of (ids (slice_set old i record { listing = n; reference = was.reference })) q
        ≡ cond (bytes_eq r q) (option_map f (listing_of (ids old) q)) (listing_of (ids old) q)
    set-found q = put-found (ids old) _ n set-put q
        ∙ ap (λ (n : KeyListing). cond (bytes_eq r q) (Some n) (listing_of (ids old) q)) now
        ∙ sets-some f was.listing (listing_of (ids old)) q listing-at
