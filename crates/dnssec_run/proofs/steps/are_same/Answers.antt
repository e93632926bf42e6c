-- No key is left of the one, or some is.
use Rattle.std.proofs.Common.{◌≡◌, ◌∙◌, List, [], ◌∷◌, ap, arith, length, map, refl, sym}
use Rattle.std.proofs.lemmas.List.{drop_all}
use Rattle.std.specs.Prelude.{◌==◌}
use Rattle.dnssec_run.specs.declared.record.PublishedKey.{PublishedKey}
use Rattle.dnssec_run.specs.{Origins.same_ids, Published.id_of}
use Rattle.dnssec_run.proofs.steps.are_same.Goals as goal

none-left : (keys : List PublishedKey) → (length keys == 0) ≡ same_ids (map id_of keys) []
none-left [] = refl
none-left (key ∷ keys) = grind arith

pub returns : goal.returns
returns c =
    let rest = c.loop-key.rest.now in
    c.is_empty.ensures ∙ none-left rest
    ∙ ap (λ (keys : List PublishedKey). same_ids (map id_of rest) (map id_of keys))
    (sym (drop_all c.loop-key.key-index c.args.other.now c.loop-key-test.false))
    ∙ sym c.loop-key.invariant
