-- All keys were looked at.
use Rattle.std.proofs.Common.{◌∙◌, ap, sym, None}
use Rattle.std.{proofs.lemmas.List.take_all, proofs.lemmas.List.Folds.fold-map, specs.List.fold}
use Rattle.dnssec_policy.proofs.Loops.{Lent, aged_entry, aged_key}
use Rattle.dnssec_policy.proofs.starts.first_over.Goals as goal

pub returns : goal.returns
returns c =
    let a = c.args in
    let at = c.loop-entry in
    at.invariant
    ∙ ap (fold (aged_entry a.role a.renewal.now) None)
    (take_all at.entry-index a.keys.now c.loop-entry-test.false)
    ∙ sym (fold-map (aged_key a.role a.renewal.now) (λ (e : Lent). e.1.now) None a.keys.now)
