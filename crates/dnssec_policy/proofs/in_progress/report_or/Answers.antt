-- It lasts longer than what is due.
use Rattle.std.proofs.Common.{◌∙◌, ap, sym, ℕ, Result}
use Rattle.dnssec_run.specs.declared.caches.SetKind.{SetKind}
use Rattle.dnssec_key.specs.RollTable.{is_second}
use Rattle.dnssec_policy.specs.{Code.view_of, InProgress.report_or, InProgress.report_with}
use Rattle.dnssec_policy.specs.Ttls.{lasting}
use Rattle.dnssec_policy.proofs.in_progress.report_or.Goals as goal

pub returns-in-Ok : goal.returns-in-Ok
returns-in-Ok c end =
    let a = c.args in
    let v = view_of a.state.now end in
    c.report_with.ensures end
    ∙ ap (λ (ttl : ℕ). report_with v a.roll a.half ttl) (c.lasting-ttl.ensures
    ∙ ap (lasting v.highest a.roll (is_second a.half)) c.from.ensures)
    ∙ ap (λ (r : Result ℕ SetKind). report_or v a.roll a.half a.origins r)
    (sym c.in-Ok.is)
