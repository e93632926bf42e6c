-- It is due, or nothing is said.
use Rattle.std.proofs.Common.{◌∙◌, ap, sym, Bool, List}
use Rattle.std.specs.Prelude.{if◌then◌else◌}
use Rattle.dnssec_key.specs.declared.roll.RollType.TheVariants.{AlgorithmRoll}
use Rattle.dnssec_policy.specs.{declared.policy.KeyRole.KeyRole, Code.view_of}
use Rattle.dnssec_policy.specs.{Keys.new_keys, Keys.roles_of, Next.start_with, Todo.Rest}
use Rattle.dnssec_policy.proofs.starts.change.Goals as goal

pub returns-then-not-is_change_due : goal.returns-then-not-is_change_due
returns-then-not-is_change_due c end same =
    let a = c.args in
    let start = start_with (view_of a.state.now end) AlgorithmRoll
    (new_keys a.policy.now a.state.now.keyset.now.keys (roles_of a.policy.now.scheme)) in
    sym (ap (λ (b : Bool). if b then start else Rest)
    (sym (c.is_change_due.ensures end same) ∙ c.if-not-is_change_due.true))

pub returns : goal.returns
returns c end same =
    let a = c.args in
    let v = view_of a.state.now end in
    let start = λ (roles : List KeyRole).
    start_with v AlgorithmRoll (new_keys a.policy.now a.state.now.keyset.now.keys roles) in
    c.in_ok-next.ensures end same
    ∙ ap start c.roles_of-roles.ensures
    ∙ sym (ap (λ (b : Bool). if b then start (roles_of a.policy.now.scheme) else Rest)
    (sym (c.is_change_due.ensures end same) ∙ c.if-not-is_change_due.false))
