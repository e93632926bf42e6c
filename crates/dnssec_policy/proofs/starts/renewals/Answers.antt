-- One roll or two, by the scheme.
use Rattle.std.proofs.Common.{◌∙◌, ap, sym}
use Rattle.dnssec_key.specs.declared.roll.RollType.{RollType}
use Rattle.dnssec_policy.specs.{declared.policy.Scheme.Scheme, Code.view_of}
use Rattle.dnssec_policy.specs.{Next.renewal, Next.renewals, Todo.sooner}
use Rattle.dnssec_policy.proofs.starts.renewals.Goals as goal

pub returns-in_ok-two-in-Split : goal.returns-in_ok-two-in-Split
returns-in_ok-two-in-Split c end same =
    let a = c.args in
    let v = view_of a.state.now end in
    let policy = a.policy.now in
    let one = c.in_ok-one-in-Split.ensures end same
    ∙ ap (λ (r : RollType). renewal policy v r) c.roll.ensures in
    let two = c.in_ok-two-in-Split.ensures end same
    ∙ ap (λ (r : RollType). renewal policy v r) c.roll-in-Split.ensures in
    c.or.ensures a.state.now.moment ∙ (λ i. sooner (one i) (two i))
    ∙ ap (λ (s : Scheme). renewals policy v s) (sym c.in-Split.is)

pub returns-in_ok-next-in-SingleType : goal.returns-in_ok-next-in-SingleType
returns-in_ok-next-in-SingleType c end same =
    let a = c.args in
    c.in_ok-next-in-SingleType.ensures end same
    ∙ ap (λ (s : Scheme). renewals a.policy.now (view_of a.state.now end) s)
    (sym c.in-SingleType.is)
