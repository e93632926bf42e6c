-- Each turn writes one more.
use Rattle.std.proofs.Common.{◌++◌, ◌∙◌, List, ap, arith, codes, string_bytes, sym, ℕ}
use Rattle.std.proofs.lemmas.{Grind.common_steps, List.take_all, List.Folds.flat_map-map}
use Rattle.std.specs.List.{flat_map}
use denote.Bor.{now}
use denote.Ref.{Bor}
use Rattle.dnssec_policy.proofs.automatic.line.push_rest.Goals as goal

pub loop-reference-preserved : goal.loop-reference-preserved
loop-reference-preserved c = grind (arith, common_steps)

pub returns : goal.returns
returns c =
    let rs = c.args.references.now in
    let old = string_bytes c.args.text.now in
    c.loop-reference.invariant
    ∙ ap (λ (qs : List (Bor (List ℕ))). old ++ flat_map
    (λ (r : Bor (List ℕ)). codes "," ++ r.now) qs)
    (take_all c.loop-reference.reference-index rs c.loop-reference-test.false)
    ∙ ap (λ t. old ++ t) (sym (flat_map-map (λ (q : List ℕ). codes "," ++ q) now rs))
