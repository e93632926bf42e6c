-- The key has left, and the moment is reached.
use Rattle.std.proofs.Common.{◌∙◌, ap, sym, Bool, ℕ, string_bytes}
use Rattle.std.specs.Prelude.{Some, if◌then◌else◌}
use Rattle.dnssec_keyset.specs.Step.{DeleteKey}
use Rattle.dnssec_policy.specs.{Code.view_of, Keys.leaves_from, Next.at_moment, Next.once_all_ended}
use Rattle.dnssec_policy.specs.Todo.{Make, Rest, Todo}
use Rattle.dnssec_policy.proofs.deletions.deletion.Goals as goal

pub returns-then-not-has_left : goal.returns-then-not-has_left
returns-then-not-has_left c end =
    let a = c.args in
    let v = view_of a.state.now end in
    let delete = once_all_ended v (Make (DeleteKey (string_bytes a.reference.now))) in
    let moment = leaves_from a.policy.now.delete_after a.key.now.timestamps.withdrawn in
    sym (ap (λ (b : Bool). if b then at_moment a.state.now.moment (Some moment) delete else Rest)
    (sym c.has_left.ensures ∙ c.if-not-has_left.true))

pub returns : goal.returns
returns c end =
    let a = c.args in
    let v = view_of a.state.now end in
    let now = a.state.now.moment in
    let delete = once_all_ended v (Make (DeleteKey (string_bytes a.reference.now))) in
    let moment = leaves_from a.policy.now.delete_after a.key.now.timestamps.withdrawn in
    c.at_moment.ensures
    ∙ ap (λ (t : Todo). at_moment now (Some c.moment_of-moment.result) t)
    (c.once_all_ended-todo.ensures end
    ∙ ap (λ (t : Todo). once_all_ended v t) (c.delete.ensures now))
    ∙ ap (λ (m : ℕ). at_moment now (Some m) delete) c.moment_of-moment.ensures
    ∙ sym (ap (λ (b : Bool). if b then at_moment now (Some moment) delete else Rest)
    (sym c.has_left.ensures ∙ c.if-not-has_left.false))
