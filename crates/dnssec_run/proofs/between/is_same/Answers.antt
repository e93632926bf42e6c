-- The `==` of two slices, read at what their keys are.
use Rattle.std.proofs.Common.{◌≡◌, ◌∙◌, List, [], ◌∷◌, refl, map, ap}
use Rattle.std.specs.{Prelude.◌&&◌, Cmp.Lexicographic.pointwise}
use Rattle.dnssec_run.specs.declared.record.PublishedKey.{PublishedKey}
use Rattle.dnssec_run.specs.{Origins.same_id, Origins.same_ids, Published.id_of}
use Rattle.dnssec_run.specs.contracts.record.PublishedKeyPartialEq.TheImpl.{eq-value}
use Rattle.dnssec_run.proofs.between.is_same.Goals as goal

same-keys : (xs ys : List PublishedKey)
    → pointwise eq-value.it xs ys ≡ same_ids (map id_of xs) (map id_of ys)
same-keys [] [] = refl
same-keys [] (y ∷ ys) = refl
same-keys (x ∷ xs) [] = refl
same-keys (x ∷ xs) (y ∷ ys) = ap (λ b. same_id (id_of x) (id_of y) && b) (same-keys xs ys)

pub returns : goal.returns
returns c = c.eq.ensures ∙ same-keys c.keys_at.result.now c.keys_at-2.result.now
    ∙ (λ i. same_ids (c.keys_at.ensures i) (c.keys_at-2.ensures i))
