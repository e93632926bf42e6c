-- A published list has exactly the keys that its set shows, in their order.
use Rattle.std.proofs.Common.{◌≡◌, ℕ, Bool, true, false, cond, List, [], ◌∷◌, map, None, Some, refl}
use Rattle.std.proofs.Common.{sym, ap, ◌∙◌, arith}
use Rattle.std.specs.Prelude.{Option, ◌&&◌, T, filter, if◌then◌else◌}
use Rattle.std.specs.Ordering.{nat_cmp, is_eq, is_lt}
use Rattle.std.specs.FinMap.{find, get, entries, get-empty, get-entries, entries_sorted}
use Rattle.std.specs.FinMap.{slice_cmp-IsAntisymmetric, nat_cmp-IsAntisymmetric}
use Rattle.std.specs.FinMap.Entries.{below_all, is_sorted, same_entries}
use Rattle.std.specs.declared.cmp.Ordering.{Ordering, TheVariants.Equal, TheVariants.Less}
use Rattle.std.specs.declared.cmp.Ordering.TheVariants.{Greater}
use Rattle.std.specs.Cmp.Lexicographic.{nat_list_cmp_total, slice_cmp}
use Rattle.dnssec_key.specs.{declared.kind.KeyType.KeyType, Key.KeyParts}
use Rattle.dnssec_zone.proofs.Quantified.{first, same_key, second}
use Rattle.dnssec_run.specs.Published.{Id, World, keys_where}
use Rattle.dnssec_run.specs.{Adds.IsAscending, Record.new_world}
pub use Rattle.dnssec_run.specs.Lists.{passing}

-- the position of the key with this reference among these, if it is there
abbrev pub position_in : List Id → List ℕ → Option ℕ
position_in ids q = find (slice_cmp nat_cmp) q ids

-- the position of a key, if a set shows it
abbrev pub position_shown : (KeyType → Bool) → Option KeyParts → Option ℕ → Option ℕ
position_shown passes None at = None
position_shown passes (Some k) at = if passes k.keytype then at else None

abbrev pub order : List ℕ → List ℕ → Ordering
order = slice_cmp nat_cmp

pub both : (a b : Bool) → T a → T b → T (a && b)
both true b p q = q
both false b p q = absurd p

pub equal-keys : (x y : List ℕ) → order x y ≡ Equal → x ≡ y
equal-keys = slice_cmp-IsAntisymmetric nat_cmp-IsAntisymmetric

-- ---- a set by its look-ups

-- keys that both pass, or neither, have the same position if they are shown
shown-alike : (p : KeyType → Bool) (o u : Option KeyParts) (m n : ℕ) → passing p o ≡ passing p u
    → ((k : KeyParts) → u ≡ Some k → m ≡ n)
    → position_shown p o (Some m) ≡ position_shown p u (Some n)
shown-alike p o u m n same added = grind arith

pub less-apart : (o : Ordering) → T (is_lt o) → is_eq o ≡ false
less-apart Less h = refl
less-apart Equal h = absurd h
less-apart Greater h = absurd h

-- a key below all of a list is none of it
pub none-below : {X : Type 0} (x q : List ℕ) (es : List (List ℕ × X)) → T (below_all order x es)
    → is_eq (order q x) ≡ true → find order q es ≡ None
none-below x q [] b e = refl
none-below x q (f ∷ es) b e =
    ap (λ t. cond t (Some f.1) (find order q es)) (ap (λ k. is_eq (order k f.0)) (same_key q x e)
    ∙ less-apart (order x f.0) (first _ _ b)) ∙ none-below x q es (second _ _ b) e

-- ---- a list of the entries that pass, each with a number of its own

module _ {X : Type 0} (pass : X → Bool) (number : List ℕ → X → ℕ) where
  abbrev id : List ℕ × X → Id
  id e = (e.0, number e.0 e.1)

  -- the entries that pass
  abbrev some_of : List (List ℕ × X) → List (List ℕ × X)
  some_of = filter (λ (e : List ℕ × X). pass e.1)

  -- the number of one, if it passes
  abbrev pub number_shown : List ℕ → Option X → Option ℕ
  number_shown q None = None
  number_shown q (Some x) = if pass x then Some (number q x) else None

  below-shown : (x : List ℕ) (es : List (List ℕ × X)) → T (below_all order x es)
      → T (below_all order x (map id (some_of es)))
  below-shown x [] h = tt
  below-shown x (e ∷ es) h =
      let rest = below-shown x es (second _ _ h) in
      elim (pass e.1) as
      (λ b. T (below_all order x (map id (cond b (e ∷ some_of es) (some_of es)))))
      [ true ↦ both _ _ (first _ _ h) rest | false ↦ rest ]

  pub some-ascending : (es : List (List ℕ × X)) → T (is_sorted order es)
      → IsAscending (map id (some_of es))
  some-ascending [] h = tt
  some-ascending (e ∷ es) h =
      let rest = some-ascending es (second _ _ h) in
      elim (pass e.1) as (λ b. IsAscending (map id (cond b (e ∷ some_of es) (some_of es))))
      [ true ↦ both _ _ (below-shown e.0 es (first _ _ h)) rest | false ↦ rest ]

  pub some-found : (q : List ℕ) (es : List (List ℕ × X)) → T (is_sorted order es)
      → position_in (map id (some_of es)) q ≡ number_shown q (find order q es)
  some-found q [] h = refl
  some-found q (e ∷ es) h = by (some-found q es (second _ _ h)) (pass e.1)
      (is_eq (order q e.0)) refl refl
    where
      by : position_in (map id (some_of es)) q ≡ number_shown q (find order q es)
          → (b t : Bool) → pass e.1 ≡ b → is_eq (order q e.0) ≡ t
          → position_in (map id (cond b (e ∷ some_of es) (some_of es))) q
          ≡ number_shown q (cond t (Some e.1) (find order q es))
      by rest true true p t = rw (t, p) (ap (λ x. Some (number x e.1)) (sym (same_key q e.0 t)))
      by rest false true p t = rw p (rest ∙ ap (number_shown q)
          (none-below e.0 q es (first _ _ h) t))
      by rest true false p t = rw t rest
      by rest false false p t = rest

shown-number : (passes : KeyType → Bool) (n : ℕ) (q : List ℕ) (o : Option KeyParts)
    → number_shown (λ (k : KeyParts). passes k.keytype) (λ q k. n) q o
    ≡ position_shown passes o (Some n)
shown-number passes n q o = grind arith

module _ (passes : KeyType → Bool) (w : World) where
  pub shown-ascending : IsAscending (keys_where passes w)
  shown-ascending = some-ascending (λ (k : KeyParts). passes k.keytype) (λ q k. w.added q)
      (entries w.set.keys) (entries_sorted w.set.keys)

  pub shown-found : (q : List ℕ) → position_in (keys_where passes w) q
      ≡ position_shown passes (get w.set.keys q) (Some (w.added q))
  shown-found q =
      some-found (λ (k : KeyParts). passes k.keytype) (λ q k. w.added q) q
      (entries w.set.keys) (entries_sorted w.set.keys)
      ∙ shown-number passes (w.added q) q (find order q (entries w.set.keys))
      ∙ ap (λ o. position_shown passes o (Some (w.added q))) (sym (get-entries w.set.keys q))

  pub shown-by : (ids : List Id) → IsAscending ids → ((q : List ℕ) → position_in ids q
      ≡ position_shown passes (get w.set.keys q) (Some (w.added q))) → ids ≡ keys_where passes w
  shown-by ids up found = same_entries order nat_list_cmp_total equal-keys ids
      (keys_where passes w) up shown-ascending (λ q. found q ∙ sym (shown-found q))

-- if the same keys pass, each added at the same position, `keys_where` is the same list
pub same-shown : (p : KeyType → Bool) (w v : World)
    → ((q : List ℕ) → passing p (get v.set.keys q) ≡ passing p (get w.set.keys q))
    → ((q : List ℕ) (k : KeyParts) → get w.set.keys q ≡ Some k → v.added q ≡ w.added q)
    → keys_where p v ≡ keys_where p w
same-shown p w v passes added = shown-by p w (keys_where p v) (shown-ascending p v)
    (λ q. shown-found p v q ∙ shown-alike p (get v.set.keys q) (get w.set.keys q) (v.added q)
    (w.added q) (passes q) (added q))

-- a new set shows nothing
pub shown-none : (p : KeyType → Bool) (name : List ℕ) → keys_where p (new_world name) ≡ []
shown-none p name = sym (shown-by p (new_world name) [] tt
    (λ q. ap (λ o. position_shown p o (Some 0)) (sym (get-empty (slice_cmp nat_cmp) q))))
