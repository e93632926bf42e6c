-- Listings in the order of their references: those of a key stand together.
use Rattle.std.proofs.Common.{◌≡◌, ℕ, ◌+◌, ◌<◌, ◌++◌, List, Bool, true, false, ap, sym, refl}
use Rattle.std.proofs.Common.{◌∙◌, arith, length, take, drop, take-append-drop, subst, length-drop}
use Rattle.std.proofs.Common.{length-take}
use Rattle.std.proofs.lemmas.List.Folds.{list_any-append, list_any_none}
use Rattle.std.proofs.lemmas.Bool.{true≢false}
use Rattle.std.proofs.lemmas.List.Sorted.{IsNonDecreasingBy-take, IsPartitionedBy-leb}
use Rattle.std.proofs.lemmas.List.Sorted.{IsPartitionedBy-ltb, IsPermutation-sym}
use Rattle.std.proofs.lemmas.List.Sorted.{list_any-IsPermutation, searchable_from_sorted}
use Rattle.std.specs.List.{AllWithin, filter, list_any}
use Rattle.std.proofs.lemmas.{List.get_or-drop, List.get_or-take, Map.Text.is_eq-slice_cmp}
use Rattle.std.specs.Cmp.Lexicographic.{nat_list_cmp_total, slice_cmp}
use Rattle.std.specs.List.Sorted.{IsNonDecreasingBy, IsPartitionPoint, IsPartitionedBy}
use Rattle.std.specs.Ordering.{is_eq, is_le, is_lt, nat_cmp, ordering_index, ordering_reverse}
use Rattle.std.specs.Prelude.{IsPermutation, IsSortedByKey, leb, ltb, ◌&&◌, ◌||◌}
use Rattle.std.specs.Str.{bytes_eq}
use Rattle.std.specs.declared.cmp.Ordering.{Ordering, TheVariants.Equal, TheVariants.Greater}
use Rattle.std.specs.declared.cmp.Ordering.TheVariants.{Less}
use Rattle.dnssec_key.specs.declared.{kind.KeyType.KeyType}
use Rattle.dnssec_record.specs.Courses.{Listing}
use Rattle.dnssec_zone.specs.declared.rolls.Part.{Part, TheVariants.New, TheVariants.Old}
use Rattle.dnssec_run.specs.InOrder.{entry_of}
use Rattle.dnssec_status.specs.Inner.Entries.{entry_json}
use Rattle.dnssec_status.specs.Keys.{end_json, front_json, has_listed, rolls_of}
use Rattle.dnssec_zone.specs.Rolls.{all_rolls}

-- ---- the order makes no difference

same_rolls : (ls ms : List Listing) → IsPermutation ls ms → (part : Part) (q : List ℕ)
    → rolls_of part q ls ≡ rolls_of part q ms
unfolding rolls_of
same_rolls ls ms moved part q = λ i.
    filter (λ roll. list_any-IsPermutation (has_listed roll part q) ls ms moved i) all_rolls

same_end : (ls ms : List Listing) → IsPermutation ls ms → (q : List ℕ) (k : KeyType)
    → end_json ls q k ≡ end_json ms q k
unfolding end_json
same_end ls ms moved q k = rw (same_rolls ls ms moved Old q, same_rolls ls ms moved New q) refl

pub same_entries : {Y : Type 0} (ls ms : List Listing) → IsPermutation ms ls
    → entry_json {Y = Y} ls ≡ entry_json ms
same_entries ls ms moved = λ i e.
    front_json (entry_of e).0 (entry_of e).1
    ++ same_end ls ms (IsPermutation-sym ms ls moved) (entry_of e).0 (entry_of e).1.keytype i

-- ---- a part of a list has all that pass

module _ {X : Type 0} (p : X → Bool) where
  none_before : (xs : List X) (n : ℕ) → AllWithin (λ x. p x ≡ false) xs 0 n
      → list_any p (take n xs) ≡ false
  none_before xs n none = list_any_none p (take n xs) (λ k d l.
      let low : k < n = omega (arith, length-take n xs, l) in
      subst (λ x. p x ≡ false) (sym (get_or-take n xs k d low)) (none k d (omega arith) low))

  none_after : (xs : List X) (n : ℕ) → AllWithin (λ x. p x ≡ false) xs n (length xs)
      → list_any p (drop n xs) ≡ false
  none_after xs n none = list_any_none p (drop n xs) (λ k d l.
      let high : n + k < length xs = omega (arith, length-drop n xs, l) in
      subst (λ x. p x ≡ false) (sym (get_or-drop n xs k d)) (none (n + k) d (omega arith) high))

  pub all_between : (xs : List X) (begin end : ℕ)
      → AllWithin (λ x. p x ≡ false) xs end (length xs)
      → AllWithin (λ x. p x ≡ false) (take end xs) 0 begin
      → list_any p (drop begin (take end xs)) ≡ list_any p xs
  all_between xs begin end after before =
      let up_to = take end xs in
      let all : list_any p xs ≡ (list_any p up_to || list_any p (drop end xs)) =
      ap (list_any p) (sym (take-append-drop end xs)) ∙ list_any-append p up_to (drop end xs) in
      let front : list_any p up_to ≡ (list_any p (take begin up_to) || list_any p
      (drop begin up_to)) =
      ap (list_any p) (sym (take-append-drop begin up_to))
      ∙ list_any-append p (take begin up_to) (drop begin up_to) in
      let no_more = none_after xs end after in
      let none_yet = none_before up_to begin before in
      grind (arith, all, front, no_more, none_yet)

-- ---- the part of a key

is_beyond : (o : Ordering) → is_le o ≡ false → is_eq (ordering_reverse o) ≡ false
is_beyond Less far = refl
is_beyond Equal far = absurd (true≢false far)
is_beyond Greater far = refl

is_below : (o : Ordering) → is_lt o ≡ true → is_eq (ordering_reverse o) ≡ false
is_below Less far = refl
is_below Equal far = absurd (true≢false (sym far))
is_below Greater far = refl

le_index : (o : Ordering) → leb (ordering_index o) 1 ≡ is_le o
le_index Less = refl
le_index Equal = refl
le_index Greater = refl

lt_index : (o : Ordering) → ltb (ordering_index o) 1 ≡ is_lt o
lt_index Less = refl
lt_index Equal = refl
lt_index Greater = refl

-- how the reference of an element stands to that of the key
module _ {X : Type 0} (key : X → List ℕ) (q : List ℕ) where
  abbrev place : X → Ordering
  place x = slice_cmp nat_cmp (key x) q

  rises : (xs : List X) → IsSortedByKey key (slice_cmp nat_cmp) xs
      → IsNonDecreasingBy (λ x. ordering_index (place x)) xs
  rises xs up = searchable_from_sorted nat_list_cmp_total key xs q up

  pub parted_le : (xs : List X) → IsSortedByKey key (slice_cmp nat_cmp) xs
      → IsPartitionedBy (λ x. is_le (slice_cmp nat_cmp (key x) q)) xs
  parted_le xs up = subst (λ (p : X → Bool). IsPartitionedBy p xs) (λ i x. le_index (place x) i)
      (IsPartitionedBy-leb (λ x. ordering_index (place x)) xs 1 (rises xs up))

  pub parted_lt : (xs : List X) (end : ℕ) → IsSortedByKey key (slice_cmp nat_cmp) xs
      → IsPartitionedBy (λ x. is_lt (slice_cmp nat_cmp (key x) q)) (take end xs)
  parted_lt xs end up = subst (λ (p : X → Bool). IsPartitionedBy p (take end xs))
      (λ i x. lt_index (place x) i)
      (IsPartitionedBy-ltb (λ x. ordering_index (place x)) (take end xs) 1
      (IsNonDecreasingBy-take (λ x. ordering_index (place x)) end xs (rises xs up)))

  apart : (x : X) → is_eq (ordering_reverse (place x)) ≡ false → bytes_eq q (key x) ≡ false
  apart x other = sym (is_eq-slice_cmp q (key x))
      ∙ ap is_eq (nat_list_cmp_total.antisymm q (key x)) ∙ other

  pub between : (p : X → Bool) → ((x : X) → bytes_eq q (key x) ≡ false → p x ≡ false)
      → (xs : List X) (begin end : ℕ)
      → IsPartitionPoint (λ x. is_le (slice_cmp nat_cmp (key x) q) ≡ true)
      (λ x. is_le (slice_cmp nat_cmp (key x) q) ≡ false) xs end
      → IsPartitionPoint (λ x. is_lt (slice_cmp nat_cmp (key x) q) ≡ true)
      (λ x. is_lt (slice_cmp nat_cmp (key x) q) ≡ false) (take end xs) begin
      → list_any p (drop begin (take end xs)) ≡ list_any p xs
  between p other xs begin end after before =
      all_between p xs begin end
      (λ k d low high. other _ (apart _ (is_beyond _ (after.1 k d low high))))
      (λ k d low high. other _ (apart _ (is_below _ (before.0 k d low high))))

-- ---- a listing of another key

pub of_no_other : (a b c : Bool) → c ≡ false → (a && b && c) ≡ false
of_no_other true true c other = other
of_no_other true false c other = refl
of_no_other false b c other = refl
