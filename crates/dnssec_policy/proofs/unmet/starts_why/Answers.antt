-- A change is barred, or a renewal.
use Rattle.std.{proofs.Common.◌∙◌, proofs.Common.ap, proofs.Common.Bool, specs.Option.option_or}
use Rattle.dnssec_key.specs.declared.roll.RollType.TheVariants.{AlgorithmRoll}
use Rattle.dnssec_policy.specs.{Code.view_of, Stuck.barred_if}
use Rattle.dnssec_policy.proofs.unmet.starts_why.Goals as goal

pub returns : goal.returns
returns c end same =
    let a = c.args in
    let v = view_of a.state.now end in
    let change = c.barred_if-change.ensures end
    ∙ ap (λ (b : Bool). barred_if b v AlgorithmRoll)
    (c.wants_others.ensures a.state.now.keyset.now.keys same) in
    c.or.ensures ∙ (λ i. option_or (change i) (c.renewals_why-renewals.ensures end same i))
