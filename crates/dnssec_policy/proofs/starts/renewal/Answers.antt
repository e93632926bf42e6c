-- The roll may begin, and the moment is reached; or one of these is said.
use Rattle.std.proofs.Common.{◌∙◌, ap, sym, Bool, true, false, ◌∷◌, [], arith}
use Rattle.std.proofs.lemmas.Bool.{le-leb, lt-leb}
use Rattle.std.specs.{Prelude.if◌then◌else◌, FinMap.values}
use Rattle.dnssec_policy.specs.{declared.policy.KeyRole.KeyRole, Code.view_of}
use Rattle.dnssec_policy.specs.Keys.{first_over, new_keys, renewal_of, role_of}
use Rattle.dnssec_policy.specs.{Next.at_moment, Next.start_with, Todo.Rest}
use Rattle.dnssec_policy.proofs.{InTime.renewal-by, Loops.over-lent}
use Rattle.dnssec_policy.proofs.starts.renewal.Goals as goal

pub returns-then-not-may_renew : goal.returns-then-not-may_renew
returns-then-not-may_renew c end same =
    let a = c.args in
    let all = a.state.now.keyset.now.keys in
    let role = role_of a.roll in
    let v = view_of a.state.now end in
    let start = start_with v a.roll (new_keys a.policy.now all (role ∷ [])) in
    let moment = first_over role (renewal_of a.policy.now role) (values all) in
    sym (ap (λ (b : Bool). if b then at_moment a.state.now.moment moment start else Rest)
    (sym (c.may_renew.ensures end same) ∙ c.if-not-may_renew.true))

pub returns-in_ok-next-in-Some : goal.returns-in_ok-next-in-Some
returns-in_ok-next-in-Some c end same =
    let a = c.args in
    let v = view_of a.state.now end in
    let role = role_of a.roll in
    let due = c.if-moment-nanos.true in
    c.in_ok-next-in-Some.ensures end same
    ∙ ap (λ (r : KeyRole). start_with v a.roll (new_keys a.policy.now v.set.keys (r ∷ [])))
    c.role_of-role.ensures
    ∙ sym (renewal-by a.policy.now v a.roll c.in-Some.moment true
    (sym (c.may_renew.ensures end same) ∙ c.if-not-may_renew.false)
    (over-lent role (renewal_of a.policy.now role) v.set.keys a.keys.now same
    ∙ sym c.in-Some.ensures) (le-leb c.in-Some.moment v.now (omega (arith, due, c.nanos.ensures))))

pub returns-else-moment-nanos : goal.returns-else-moment-nanos
returns-else-moment-nanos c end same =
    let a = c.args in
    let v = view_of a.state.now end in
    let role = role_of a.roll in
    let due = c.if-moment-nanos.false in
    sym (renewal-by a.policy.now v a.roll c.in-Some.moment false
    (sym (c.may_renew.ensures end same) ∙ c.if-not-may_renew.false)
    (over-lent role (renewal_of a.policy.now role) v.set.keys a.keys.now same
    ∙ sym c.in-Some.ensures) (lt-leb c.in-Some.moment v.now (omega (arith, due, c.nanos.ensures))))
