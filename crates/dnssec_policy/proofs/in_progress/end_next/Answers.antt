-- The roll came to its second wait.
use Rattle.std.proofs.Common.{◌∙◌, ap, Option, ℕ}
use Rattle.dnssec_policy.specs.{Code.view_of, InProgress.end_next}
use Rattle.dnssec_policy.proofs.in_progress.end_next.Goals as goal

pub returns-in-Some : goal.returns-in-Some
returns-in-Some c end =
    let a = c.args in
    c.once_settled.ensures end
    ∙ ap (λ (o : Option ℕ). end_next (view_of a.state.now end) a.roll o) c.in-Some.ensures
