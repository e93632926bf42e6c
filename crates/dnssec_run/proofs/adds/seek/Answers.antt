-- An entry that is found has its key.
use Rattle.std.proofs.Common.{◌≡◌, ◌∙◌, Some, String, ap, rules, string_bytes, subst, sym}
use Rattle.std.proofs.lemmas.List.Elements.{All-head, All-tail}
use Rattle.std.specs.{List.All, Global.Global}
use Rattle.std.specs.HashMap as hash
use Rattle.dnssec_key.specs.Key.{KeyParts}
use Rattle.dnssec_run.proofs.adds.seek.Goals as goal

pub returns-then-eq : goal.returns-then-eq
returns-then-eq c =
    let P : String Global × KeyParts → Type 0 =
    λ e. hash.get_by_text c.args.keys.now (string_bytes e.0) ≡ Some e.1 in
    let same : string_bytes c.in-Some.found.now ≡ string_bytes c.args.reference.now =
    search rules in
    sym (All-head P _ _ (subst (All P) c.in-Some.ensures.steps c.loop-found.invariant))
    ∙ ap (hash.get_by_text c.args.keys.now) same

pub loop-found-preserved : goal.loop-found-preserved
loop-found-preserved c =
    let P : String Global × KeyParts → Type 0 =
    λ e. hash.get_by_text c.args.keys.now (string_bytes e.0) ≡ Some e.1 in
    All-tail P _ _ (subst (All P) c.in-Some.ensures.steps c.loop-found.invariant)
