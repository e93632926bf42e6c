-- One roll or two, by the scheme.
use Rattle.std.{proofs.Common.◌∙◌, proofs.Common.ap, proofs.Common.sym, specs.Option.option_or}
use Rattle.dnssec_key.specs.declared.roll.RollType.{RollType}
use Rattle.dnssec_policy.specs.{declared.policy.Scheme.Scheme, Code.view_of}
use Rattle.dnssec_policy.specs.Stuck.{renewal_why, renewals_why}
use Rattle.dnssec_policy.proofs.unmet.renewals_why.Goals as goal

pub returns-in-Split : goal.returns-in-Split
returns-in-Split c end same =
    let a = c.args in
    let v = view_of a.state.now end in
    let policy = a.policy.now in
    let one = c.renewal_why-one.ensures end same
    ∙ ap (λ (r : RollType). renewal_why policy v r) c.roll.ensures in
    let two = c.renewal_why-two.ensures end same
    ∙ ap (λ (r : RollType). renewal_why policy v r) c.roll-in-Split.ensures in
    c.or.ensures ∙ (λ i. option_or (one i) (two i))
    ∙ ap (λ (s : Scheme). renewals_why policy v s) (sym c.in-Split.is)

pub returns-in-SingleType : goal.returns-in-SingleType
returns-in-SingleType c end same =
    let a = c.args in
    c.renewal_why.ensures end same
    ∙ ap (λ (s : Scheme). renewals_why a.policy.now (view_of a.state.now end) s)
    (sym c.in-SingleType.is)
