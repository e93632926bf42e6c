-- One kind after another.
use Rattle.std.proofs.Common.{◌∙◌, ap}
use Rattle.dnssec_run.specs.declared.caches.SetKind.TheVariants.{Ds, Dnskey}
use Rattle.dnssec_policy.specs.{Code.view_of, InProgress.once_there, Todo.Todo}
use Rattle.dnssec_policy.proofs.in_progress.once_settled.Goals as goal

pub returns : goal.returns
returns c end =
    let v = view_of c.args.state.now end in
    let roll = c.args.roll in
    let base = c.args.base in
    c.once_there.ensures end
    ∙ ap (λ (t : Todo). once_there v roll base Ds t) (c.once_there-dnskey.ensures end)
    ∙ ap (λ (t : Todo). once_there v roll base Ds (once_there v roll base Dnskey t))
    (c.once_there-zone.ensures end)
