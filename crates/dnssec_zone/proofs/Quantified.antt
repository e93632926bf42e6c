-- A test of some key, against the look-ups: if some key passes, a look-up finds it; if none passes,
-- no look-up finds one.
use Rattle.std.proofs.Common.{◌≡◌, ℕ, Bool, true, false, cond, List, [], ◌∷◌, map, Some, refl, sym}
use Rattle.std.proofs.{Common.ap, Common.arith, Common.subst, Common.◌∙◌}
use Rattle.std.proofs.{lemmas.Bool.false_from_ne_true, lemmas.Bool.or_parts}
use Rattle.std.proofs.{lemmas.List.Recursion.same_from_clauses, lemmas.Map.Text.is_eq-slice_cmp}
use Rattle.std.specs.{Prelude.◌&&◌, Prelude.◌||◌, Prelude.T, List.list_any}
use Rattle.std.specs.{declared.cmp.Ordering.Ordering, declared.cmp.Ordering.TheVariants.Less}
use Rattle.std.specs.{Ordering.nat_cmp, Ordering.is_eq, Ordering.is_lt, Cmp.Lexicographic.slice_cmp}
use Rattle.std.specs.{Cmp.Lexicographic.bytes_decides, FinMap.find, FinMap.entries, FinMap.get}
use Rattle.std.specs.{FinMap.get-entries, FinMap.entries_sorted, FinMap.Entries.below_all}
use Rattle.std.specs.{FinMap.Entries.is_sorted}
use Rattle.dnssec_key.specs.Key.{KeyParts}
use Rattle.dnssec_zone.specs.Keys.{Keys, some_key, some_entry}

pub first : (a b : Bool) → T (a && b) → T a
first true b h = tt
first false b h = absurd h

pub second : (a b : Bool) → T (a && b) → T b
second true b h = h
second false b h = absurd h

pub not_both : (o : Ordering) → T (is_lt o) → is_eq o ≡ true → ⊥
not_both Less h e = cc
not_both o h e = h

pub same_key : (q x : List ℕ) → is_eq (slice_cmp nat_cmp q x) ≡ true → q ≡ x
same_key q x e = (bytes_decides q x).0 (sym (is_eq-slice_cmp q x) ∙ e)

pub itself : (q : List ℕ) → is_eq (slice_cmp nat_cmp q q) ≡ true
itself q = is_eq-slice_cmp q q ∙ (bytes_decides q q).1 refl

pub apart : (x q : List ℕ) → T (is_lt (slice_cmp nat_cmp x q)) →
    is_eq (slice_cmp nat_cmp q x) ≡ false
apart x q h = false_from_ne_true _ (λ e. not_both (slice_cmp nat_cmp x x)
    (subst (λ k. T (is_lt (slice_cmp nat_cmp x k))) (same_key q x e) h) (itself x))

-- ---- a look-up in a list of entries

pub below_found : (x q : List ℕ) (v : KeyParts) (es : List (List ℕ × KeyParts)) →
    T (below_all (slice_cmp nat_cmp) x es) → find (slice_cmp nat_cmp) q es ≡ Some v →
    T (is_lt (slice_cmp nat_cmp x q))
below_found x q v [] b f = cc
below_found x q v (e ∷ es) b f = grind (arith, same_key, first, second, below_found x q v es)

-- the first entry is found,
pub here-found : (e : List ℕ × KeyParts) (es : List (List ℕ × KeyParts))
    → find (slice_cmp nat_cmp) e.0 (e ∷ es) ≡ Some e.1
here-found e es = ap (λ c. cond c (Some e.1) (find (slice_cmp nat_cmp) e.0 es)) (itself e.0)

-- and one after it is found too
pub later-found : (e : List ℕ × KeyParts) (es : List (List ℕ × KeyParts))
    → T (is_sorted (slice_cmp nat_cmp) (e ∷ es)) → (q : List ℕ) (k : KeyParts)
    → find (slice_cmp nat_cmp) q es ≡ Some k → find (slice_cmp nat_cmp) q (e ∷ es) ≡ Some k
later-found e es s q k f = ap (λ c. cond c (Some e.1) (find (slice_cmp nat_cmp) q es))
    (apart e.0 q (below_found e.0 q k es (first _ _ s) f)) ∙ f

-- ---- a test that reads the reference too

module _ (p : List ℕ → KeyParts → Bool) where
  one_entry : (es : List (List ℕ × KeyParts)) → T (is_sorted (slice_cmp nat_cmp) es)
      → list_any (λ (e : List ℕ × KeyParts). p e.0 e.1) es ≡ true
      → (q : List ℕ) × (k : KeyParts) × (find (slice_cmp nat_cmp) q es ≡ Some k) × (p q k ≡ true)
  one_entry [] s h = cc
  one_entry (e ∷ es) s h = grind (arith, one_entry es, second, here-found e es, later-found e es s)

  none_entry : (es : List (List ℕ × KeyParts)) (q : List ℕ) (k : KeyParts)
      → list_any (λ (e : List ℕ × KeyParts). p e.0 e.1) es ≡ false → find (slice_cmp nat_cmp) q es
      ≡ Some k → p q k ≡ false
  none_entry [] q k h f = cc
  none_entry (e ∷ es) q k h f = grind (arith, same_key, or_parts, none_entry es q k)

  pub some_entry-found : (keys : Keys) → some_entry p keys ≡ true → (q : List ℕ) × (k : KeyParts)
      × (get keys q ≡ Some k) × (p q k ≡ true)
  some_entry-found keys h = let e = one_entry (entries keys) (entries_sorted keys) h in
      (e.0, e.1, get-entries keys e.0 ∙ e.2, e.3)

  pub some_entry-none : (keys : Keys) (q : List ℕ) (k : KeyParts) → some_entry p keys ≡ false
      → get keys q ≡ Some k → p q k ≡ false
  some_entry-none keys q k h f = none_entry (entries keys) q k h (sym (get-entries keys q) ∙ f)

-- ---- a test of only the key doesn't read the reference

pub list_any-map : {A B : Type 0} (p : B → Bool) (f : A → B) (xs : List A)
    → list_any p (map f xs) ≡ list_any (λ x. p (f x)) xs
list_any-map p f = same_from_clauses (λ xs. list_any p (map f xs)) (list_any (λ x. p (f x)))
    (λ x b. p (f x) || b) refl (λ x xs. refl) (λ x xs. refl)

module _ (p : KeyParts → Bool) (keys : Keys) where
  pub some_key-entry : some_key p keys ≡ some_entry (λ q. p) keys
  some_key-entry = list_any-map p (λ (e : List ℕ × KeyParts). e.1) (entries keys)

  -- if some key passes, a look-up finds one
  pub some_key-found : some_key p keys ≡ true → (q : List ℕ) × (k : KeyParts)
      × (get keys q ≡ Some k) × (p k ≡ true)
  some_key-found h = some_entry-found (λ q. p) keys (sym some_key-entry ∙ h)

  -- if no key passes, no look-up finds one that does
  pub some_key-none : (q : List ℕ) (k : KeyParts) → some_key p keys ≡ false
      → get keys q ≡ Some k → p k ≡ false
  some_key-none q k h = some_entry-none (λ q. p) keys q k (sym some_key-entry ∙ h)
