-- It is barred if a key's time is over.
use Rattle.std.proofs.Common.{◌∙◌, ap, Bool}
use Rattle.dnssec_policy.specs.{Code.view_of, Stuck.barred_if}
use Rattle.dnssec_policy.proofs.unmet.renewal_why.Goals as goal

pub returns : goal.returns
returns c end same =
    let a = c.args in
    c.barred_if.ensures end
    ∙ ap (λ (b : Bool). barred_if b (view_of a.state.now end) a.roll) (c.is_over.ensures end same)
