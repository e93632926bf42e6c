-- What `retain` keeps of a list, if its closure stays as it is.
use Rattle.std.proofs.Common.{◌≡◌, Bool, true, false, List, [], ◌∷◌, length, ◌∙◌, ap, arith, cond}
use Rattle.std.proofs.Common.{refl, subst}
use Rattle.std.specs.List.{filter, items_where_true, Retain.IsFiltered, Retain.ReturnsInTurn}

module _ {X P : Type 0} (R : P → X → Bool → P → Type 0) (test : X → Bool) (p : P)
    (says : (x : X) (b : Bool) (q : P) → R p x b q → (q ≡ p) × (b ≡ test x)) where
  first_by : (x : X) (xs ys : List X) (bs : List Bool) (b t : Bool) → b ≡ t
      → items_where_true bs xs ≡ ys → items_where_true (b ∷ bs) (x ∷ xs) ≡ cond t (x ∷ ys) ys
  first_by x xs ys bs true t e rest = ap (λ l. x ∷ l) rest ∙ ap (λ a. cond a (x ∷ ys) ys) e
  first_by x xs ys bs false t e rest = rest ∙ ap (λ a. cond a (x ∷ ys) ys) e

  picked_by : (q : P) (bs : List Bool) (xs : List X) → length bs ≡ length xs
      → ReturnsInTurn R p bs xs q → items_where_true bs xs ≡ filter test xs
  picked_by q [] [] e h = refl
  picked_by q [] (x ∷ xs) e h = absurd (omega arith)
  picked_by q (b ∷ bs) [] e h = absurd h
  picked_by q (b ∷ bs) (x ∷ xs) e h =
      let s = says x b h.0 h.1 in
      first_by x xs (filter test xs) bs b (test x) s.1
      (picked_by q bs xs (omega arith) (subst (λ j. ReturnsInTurn R j bs xs q) s.0 h.2))

  pub filtered : (xs ys : List X) → IsFiltered R p xs ys → ys ≡ filter test xs
  filtered xs ys h = h.4 ∙ picked_by h.1 h.0 xs h.2 h.3
