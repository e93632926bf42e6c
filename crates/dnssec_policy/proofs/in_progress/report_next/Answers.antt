-- By the TTL that is due.
use Rattle.std.proofs.Common.{◌∙◌, ap, ℕ, Option, Result}
use Rattle.dnssec_run.specs.declared.{caches.SetKind.SetKind, running.LastStep.LastStep}
use Rattle.dnssec_policy.specs.{Code.view_of, InProgress.report_next, InProgress.report_or}
use Rattle.dnssec_policy.proofs.in_progress.report_next.Goals as goal

pub returns-in-Some : goal.returns-in-Some
returns-in-Some c end =
    let a = c.args in
    let v = view_of a.state.now end in
    let origins = c.in-Some.step.origins in
    c.report_or.ensures end
    ∙ ap (λ (r : Result ℕ SetKind). report_or v a.roll a.half origins r)
    c.ttl_due-due.ensures.rule
    ∙ ap (λ (o : Option LastStep). report_next v a.roll a.half o) c.in-Some.ensures
