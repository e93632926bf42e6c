-- The roll came to its second wait.
use Rattle.std.proofs.Common.{◌∙◌, ap, Option, ℕ}
use Rattle.dnssec_policy.specs.{Code.todo_of, Code.view_of, Next.once_ended}
use Rattle.dnssec_policy.proofs.deletions.once_ended.Goals as goal

pub returns-in-Some : goal.returns-in-Some
returns-in-Some c end =
    let a = c.args in
    c.once_settled.ensures end
    ∙ ap (λ (o : Option ℕ). once_ended (view_of a.state.now end) a.roll o
    (todo_of a.state.now.moment a.todo)) c.in-Some.ensures
