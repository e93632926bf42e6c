-- A published list has exactly the keys that pass its test.
use Rattle.std.proofs.Common.{[], ◌≡◌, ℕ, zero, suc, ◌↔◌, Bool, true, false, cond, List, ◌∷◌, None}
use Rattle.std.proofs.Common.{inl, inr, Option, Some, refl, sym, ap, subst, ◌∙◌, arith}
use Rattle.std.proofs.lemmas.Bool.{cases_Bool, true≢false, eqb-true, eq-eqb, false_from_ne_true}
use Rattle.std.proofs.lemmas.{Option.same_Some, Option.none-some, Map.Views.Contains-from_lookup}
use Rattle.std.specs.Prelude.{if◌then◌else◌, ◌==◌, T}
use Rattle.std.specs.{List.Contains, Ordering.nat_cmp, Ordering.is_eq, Cmp.Lexicographic.slice_cmp}
use Rattle.std.specs.FinMap.{find, get, Entries.below_all}
use Rattle.dnssec_key.specs.{declared.kind.KeyType.KeyType, Key.KeyParts}
use Rattle.dnssec_run.specs.Published.{Id, World as RealWorld, keys_where}
use Rattle.dnssec_run.specs.Adds.{IsAscending}
use Rattle.dnssec_run.proofs.Positions.{position_shown, shown-ascending}
use Rattle.dnssec_run.proofs.Positions.{shown-found as position_found}
use Rattle.dnssec_run.proofs.Chain.Tale.{seen, found, if_some}
use Rattle.dnssec_zone.proofs.Quantified.{first, second, not_both, same_key, itself}

module _ {X : Type 0} where
  -- a key that stands below all of the list is none of it
  not_below : (x q : List ℕ) (n : X) (l : List (List ℕ × X))
      → T (below_all (slice_cmp nat_cmp) x l) → find (slice_cmp nat_cmp) q l ≡ Some n
      → is_eq (slice_cmp nat_cmp q x) ≡ false
  not_below x q n [] b f = absurd (none-some n f)
  not_below x q n (e ∷ l) b f = elim (cases_Bool (is_eq (slice_cmp nat_cmp q e.0))) [
    | inl u ↦ false_from_ne_true (is_eq (slice_cmp nat_cmp q x))
        (λ w. not_both (slice_cmp nat_cmp x e.0) (first _ _ b)
        (subst (λ k. is_eq (slice_cmp nat_cmp k e.0) ≡ true) (same_key q x w) u))
    | inr u ↦ not_below x q n l (second _ _ b)
        (sym (ap (λ c. cond c (Some e.1) (find (slice_cmp nat_cmp) q l)) u) ∙ f)
  ]

  -- a search of a list in order finds what it has, and no more
  pub found_in : (l : List (List ℕ × X)) → IsAscending l → (id : List ℕ × X) → Contains l id
      → find (slice_cmp nat_cmp) id.0 l ≡ Some id.1
  found_in [] s id c = absurd (omega (arith, c.1))
  found_in (e ∷ l) s id (zero, lt, eq) =
      subst (λ (x : List ℕ × X). find (slice_cmp nat_cmp) x.0 (e ∷ l) ≡ Some x.1) eq
      (ap (λ c. cond c (Some e.1) (find (slice_cmp nat_cmp) e.0 l)) (itself e.0))
  found_in (e ∷ l) s id (suc i, lt, eq) =
      let h = found_in l (second _ _ s) id (i, omega (arith, lt), eq) in
      ap (λ c. cond c (Some e.1) (find (slice_cmp nat_cmp) id.0 l))
      (not_below e.0 id.0 id.1 l (first _ _ s) h) ∙ h

-- a list that is keys_where has exactly the keys that are found and pass
pub shown-found : (p : KeyType → Bool) (w : RealWorld) (id : Id)
    → Contains (keys_where p w) id ↔ (if_some p (found (seen w) id) ≡ true)
shown-found p w id = (
  λ c. to_found (get w.set.keys id.0) (sym (position_found p w id.0)
      ∙ found_in (keys_where p w) (shown-ascending p w) id c),
  λ e. Contains-from_lookup {eq = λ x y. is_eq (slice_cmp nat_cmp x y)} same_key id.0 id.1
      (keys_where p w) (position_found p w id.0
      ∙ from_found (get w.set.keys id.0) (w.added id.0 == id.1) refl e),
)
  where
    to_found : (o : Option KeyParts) → position_shown p o (Some (w.added id.0)) ≡ Some id.1
        → if_some p (if w.added id.0 == id.1 then o else None) ≡ true
    to_found None h = absurd (none-some id.1 h)
    to_found (Some k) h = at (p k.keytype) refl h
      where
        at : (b : Bool) → p k.keytype ≡ b → (if b then Some (w.added id.0) else None) ≡ Some id.1
            → if_some p (if w.added id.0 == id.1 then Some k else None) ≡ true
        at true t h = ap (λ c. if_some p (if c then Some k else None))
            (eq-eqb (w.added id.0) id.1 (same_Some _ _ h)) ∙ t
        at false t h = absurd (none-some id.1 h)

    from_found : (o : Option KeyParts) (b : Bool) → (w.added id.0 == id.1) ≡ b
        → if_some p (if b then o else None) ≡ true
        → position_shown p o (Some (w.added id.0)) ≡ Some id.1
    from_found o false t h = absurd (true≢false (sym h))
    from_found None true t h = absurd (true≢false (sym h))
    from_found (Some k) true t h =
        ap (λ c. if c then Some (w.added id.0) else None) h ∙ ap Some (eqb-true _ _ t)
