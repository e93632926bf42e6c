-- The finite map that the keys show, read through the hash map that it holds: look-ups, and walks.
use Rattle.std.proofs.Common.{◌≡◌, ℕ, cond, List, [], ◌∷◌, map, Some, None, refl, sym, ap, ◌∙◌}
use Rattle.std.specs.FinMap.{find, get-from_entries, same_map, slice_cmp-IsAntisymmetric}
use Rattle.std.specs.FinMap.{nat_cmp-IsAntisymmetric, FinMap, from_entries, entries, entries-insert}
use Rattle.std.proofs.Common.{arith, string_bytes, Bool, true, false, subst}
use Rattle.std.proofs.lemmas.Map.Text.{is_text, is_eq-slice_cmp, text_keys}
use Rattle.std.proofs.lemmas.List.Sorted.{IsPermutation-refl, IsPermutation-trans}
use Rattle.std.proofs.lemmas.List.Sorted.{IsPermutation-cons, IsPermutation-middle}
use Rattle.std.proofs.{lemmas.Map.Made.lookup-map_values, lemmas.List.Sorted.IsPermutation-map}
use Rattle.std.proofs.lemmas.Map.Made.{map_same_pairs}
use Rattle.std.specs.Map.Calls.{RetainsPairs}
use Rattle.std.proofs.{lemmas.List.Sorted.list_any-IsPermutation, lemmas.List.nil_from_length}
use Rattle.std.proofs.{lemmas.List.Recursion.same_from_clauses, lemmas.Map.lookup-none}
use Rattle.std.specs.FinMap.{get-entries, len-entries, len-empty}
use Rattle.std.specs.Cmp.Lexicographic.{nat_list_cmp_total, slice_cmp, bytes_decides}
use Rattle.std.specs.HashMap.{HashMap, get_by_text, IsUnique, values}
use Rattle.std.specs.List.{AllZip, IsDistinct, AllByRecursion, list_any}
use Rattle.std.specs.declared.cmp.Ordering.TheVariants.{Less, Equal, Greater}
use Rattle.std.specs.{declared.string.String.String, Ordering.nat_cmp, Ordering.is_eq, Map.lookup}
use Rattle.std.specs.{Map.keys_of, Prelude.Option, Prelude.if◌then◌else◌, Str.bytes_eq}
use Rattle.std.specs.{Option.option_map, List.Sorted.IsPermutation, String.string_eq}
use Rattle.std.specs.{FinMap.Entries.put, FinMap.Entries.by_order}
use Rattle.dnssec_key.specs.Key.{KeyParts}
use Rattle.dnssec_zone.specs.{Keys.Keys, Keys.keys_in_map, Keys.entries_by_bytes, Keys.some_key}
use Rattle.dnssec_zone.specs.{declared.keys.Keys.TheInside.Inside, contracts.keys.Keys.the_view}
use Rattle.std.specs.FinMap as fin

module _ {Y : Type 0} where
  pub find_by_bytes : (es : List (String Y × KeyParts)) (q : List ℕ) →
      find (slice_cmp nat_cmp) q (map (λ e. (string_bytes e.0, e.1)) es) ≡ lookup (is_text q) es
  find_by_bytes [] q = refl
  find_by_bytes (e ∷ es) q = λ i.
      cond (is_eq-slice_cmp q (string_bytes e.0) i) (Some e.1) (find_by_bytes es q i)

  module _ {S : Type 0} where
    -- the finite map has at the bytes q what the hash map has there
    pub get-keys_shown : (m : HashMap (String Y) KeyParts S) (q : List ℕ) →
        fin.get (keys_in_map m) q ≡ get_by_text m q
    get-keys_shown m q = get-from_entries nat_list_cmp_total (entries_by_bytes m) q
        ∙ find_by_bytes m.entries q

-- maps that answer alike are equal
pub same_keys : (a b : Keys) → ((q : List ℕ) → fin.get a q ≡ fin.get b q) → a ≡ b
same_keys a b h = same_map nat_list_cmp_total (slice_cmp-IsAntisymmetric nat_cmp-IsAntisymmetric)
    a b h

-- the keys that are shown, through the hash map
pub get-shown : (i : Inside) (v : Keys) (q : List ℕ) → the_view i ≡ v → fin.get v q
    ≡ get_by_text i.map q
get-shown i v q e = sym (ap (λ (w : Keys). fin.get w q) e) ∙ get-keys_shown i.map q

-- a walk has put every key through a step
pub record IsWalked {Y S : Type 0} (step : KeyParts → KeyParts)
    (m n : HashMap (String Y) KeyParts S) : Type 0 where
  pub is : n.entries ≡ map (λ (e : String Y × KeyParts). (e.0, step e.1)) m.entries

-- `retain` is such a walk if it keeps every key
pub retained : {F Y S : Type 0} (T : F → String Y → KeyParts → Bool → KeyParts → F → Type 0)
    {step : KeyParts → KeyParts} {f : F} {m n : HashMap (String Y) KeyParts S}
    → ((k : String Y) (v : KeyParts) (b : Bool) (w : KeyParts) (g : F) → T f k v b w g
    → (b ≡ true) × (w ≡ step v) × (g ≡ f)) → RetainsPairs T f m.entries n.entries
    → IsWalked step m n
retained T {step} {f} says kept = record { is = map_same_pairs T step f says _ _ kept }

-- what the keys show afterwards
pub get-walked : {Y S : Type 0} {step : KeyParts → KeyParts} {m n : HashMap (String Y) KeyParts S}
    {v : Keys} → IsWalked step m n → keys_in_map m ≡ v
    → (q : List ℕ) → fin.get (keys_in_map n) q ≡ option_map step (fin.get v q)
get-walked {step} {m} {n} walk e q = rw (← e, get-keys_shown n q, get-keys_shown m q, walk.is)
    (lookup-map_values step (is_text q) m.entries)

-- a change at a reference puts the changed key there
pub put-changed : (f : KeyParts → KeyParts) (m n : Keys) (r : List ℕ) (k : KeyParts)
    → fin.get m r ≡ Some k → ((q : List ℕ) → fin.get n q
    ≡ option_map (λ k. if bytes_eq r q then f k else k) (fin.get m q))
    → (q : List ℕ) → fin.get n q ≡ (if bytes_eq r q then Some (f k) else fin.get m q)
put-changed f m n r k found is q = grind (arith, bytes_decides, is q)

-- a key that is written back as it was changes nothing
pub same-written : (v n : Keys) (r : List ℕ) (k : KeyParts) → fin.get v r ≡ Some k
    → ((q : List ℕ) → fin.get n q ≡ (if bytes_eq r q then Some k else fin.get v q)) → n ≡ v
same-written v n r k found is = same_keys n v (λ q. is q ∙ (grind (arith, bytes_decides)))

-- what the keys show once a key was put in or taken out
pub get-updated : {Y S : Type 0} (m n : HashMap (String Y) KeyParts S) (r : List ℕ)
    (o : Option KeyParts)
    → ((q : List ℕ) → get_by_text n q ≡ (if bytes_eq r q then o else get_by_text m q))
    → (q : List ℕ) → fin.get (keys_in_map n) q
    ≡ (if bytes_eq r q then o else fin.get (keys_in_map m) q)
get-updated m n r o is q = rw (get-keys_shown n q, get-keys_shown m q) (is q)

pub ruleset shown = (get-keys_shown, get-shown, text_keys)

-- clones of the entries show the same
pub entries_by_bytes-clones : {Y : Type 0} (es fs : List (String Y × KeyParts)) →
    AllZip (λ p q. (string_bytes q.0 ≡ string_bytes p.0) × (q.1 ≡ p.1)) es fs
    → map {B = List ℕ × KeyParts} (λ (e : String Y × KeyParts). (string_bytes e.0, e.1)) fs
    ≡ map {B = List ℕ × KeyParts} (λ (e : String Y × KeyParts). (string_bytes e.0, e.1)) es
entries_by_bytes-clones [] [] h = refl
entries_by_bytes-clones (e ∷ es) (f ∷ fs) h =
    λ i. (h.0.0 i, h.0.1 i) ∷ entries_by_bytes-clones es fs h.1 i
entries_by_bytes-clones es fs h = absurd h

-- ---- the keys that a walk over the hash map meets are those of the finite map, in some order

module _ {X : Type 0} where
  -- to put an entry at a key that is new adds it somewhere
  pub put_permutes : (k : List ℕ) (v : X) (es : List (List ℕ × X)) → find (slice_cmp nat_cmp) k es
      ≡ None → IsPermutation ((k, v) ∷ es) (put (slice_cmp nat_cmp) k v es)
  put_permutes k v [] none = IsPermutation-refl _
  put_permutes k v (e ∷ es) none =
      elim (slice_cmp nat_cmp k e.0) as
      (λ o. cond (is_eq o) (Some e.1) (find (slice_cmp nat_cmp) k es) ≡ None
      → IsPermutation ((k, v) ∷ e ∷ es)
      (by_order o ((k, v) ∷ e ∷ es) ((e.0, v) ∷ es) (e ∷ put (slice_cmp nat_cmp) k v es))) [
        | Less ↦ λ h. IsPermutation-refl _
        | Equal ↦ λ h. cc
        | Greater ↦ λ h. IsPermutation-trans _ _ _ (IsPermutation-middle ((k, v) ∷ []) e es)
            (IsPermutation-cons e _ _ (put_permutes k v es h))
      ] none

  -- no key stands twice
  abbrev pub AreApart : List (List ℕ × X) → Type 0
  AreApart [] = Unit {0}
  AreApart (e ∷ es) = (find (slice_cmp nat_cmp) e.0 es ≡ None) × AreApart es

  -- the finite map of entries that are apart has just these
  pub entries_permute : (es : List (List ℕ × X)) → AreApart es
      → IsPermutation es (entries (from_entries {R = slice_cmp nat_cmp} es))
  entries_permute [] apart = subst (IsPermutation [])
      (sym (nil_from_length _ (sym (len-entries (fin.empty {X = X} {R = slice_cmp nat_cmp}))
      ∙ len-empty (slice_cmp nat_cmp) X))) (IsPermutation-refl [])
  entries_permute (e ∷ es) apart =
      let m : FinMap (slice_cmp nat_cmp) X = from_entries {R = slice_cmp nat_cmp} es in
      let rest : IsPermutation es (entries m) = entries_permute es apart.1 in
      let none : find (slice_cmp nat_cmp) e.0 (entries m) ≡ None = sym (get-entries m e.0)
      ∙ get-from_entries nat_list_cmp_total es e.0 ∙ apart.0 in
      subst (IsPermutation (e ∷ es)) (sym (entries-insert nat_list_cmp_total m e.0 e.1))
      (IsPermutation-trans _ _ _ (IsPermutation-cons e _ _ rest)
      (put_permutes e.0 e.1 (entries m) none))

module _ {Y : Type 0} where
  pub apart_by_bytes : (es : List (String Y × KeyParts)) → IsDistinct string_eq (keys_of es)
      → AreApart (map (λ e. (string_bytes e.0, e.1)) es)
  unfolding IsDistinct
  apart_by_bytes [] distinct = tt
  apart_by_bytes (e ∷ es) distinct = (
    find_by_bytes es (string_bytes e.0)
        ∙ lookup-none (is_text (string_bytes e.0)) es (none_passes e.0 es distinct.0),
    apart_by_bytes
        es distinct.1,
  )
    where
      none_passes : (k : String Y) (es : List (String Y × KeyParts))
          → AllByRecursion (λ y. string_eq k y ≡ false) (keys_of es)
          → AllByRecursion (λ e. is_text (string_bytes k) e.0 ≡ false) es
      none_passes k [] h = tt
      none_passes k (e ∷ es) h = (h.0, none_passes k es h.1)

  pub values_by_bytes : (es : List (String Y × KeyParts))
      → map (λ (e : List ℕ × KeyParts). e.1)
      (map (λ (e : String Y × KeyParts). (string_bytes e.0, e.1)) es)
      ≡ map (λ (e : String Y × KeyParts). e.1) es
  values_by_bytes = same_from_clauses _ _ (λ e ks. e.1 ∷ ks) refl (λ e es. refl) (λ e es. refl)

  module _ {S : Type 0} where
    -- the values of the finite map, in another order
    pub values_permute : (m : HashMap (String Y) KeyParts S) → IsUnique string_eq m
        → IsPermutation (values m) (fin.values (keys_in_map m))
    values_permute m unique = subst (λ xs. IsPermutation xs (fin.values (keys_in_map m)))
        (values_by_bytes m.entries) (IsPermutation-map (λ (e : List ℕ × KeyParts). e.1) _ _
        (entries_permute (entries_by_bytes m) (apart_by_bytes m.entries unique)))

    pub some_key-shown : (p : KeyParts → Bool) (m : HashMap (String Y) KeyParts S)
        → IsUnique string_eq m → some_key p (keys_in_map m) ≡ list_any p (values m)
    some_key-shown p m unique = sym (list_any-IsPermutation p _ _ (values_permute m unique))
