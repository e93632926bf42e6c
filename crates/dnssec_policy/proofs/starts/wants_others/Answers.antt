-- The tests of the lent keys are those of the set.
use Rattle.std.proofs.Common.{◌∙◌, ap, sym}
use Rattle.std.specs.Prelude.{not, ◌||◌}
use Rattle.dnssec_zone.specs.Keys.{some_key}
use Rattle.dnssec_policy.specs.Keys.{is_unwanted, roles_of}
use Rattle.dnssec_policy.proofs.Loops.{served-lent, some-lent}
use Rattle.dnssec_policy.proofs.starts.wants_others.Goals as goal

pub returns-then-not-is_served : goal.returns-then-not-is_served
returns-then-not-is_served c all same =
    let a = c.args in
    let other = some_key (is_unwanted a.policy.now) all in
    let none = c.if-not-is_served.true in
    ap not none ∙ sym (ap (λ b. not b || other)
    (served-lent all a.keys.now same (roles_of a.policy.now.scheme)
    ∙ sym c.is_served.ensures ∙ none))

pub returns-else-not-is_served : goal.returns-else-not-is_served
returns-else-not-is_served c all same =
    let a = c.args in
    let another = is_unwanted a.policy.now in
    let some = c.if-not-is_served.false in
    c.some_unwanted.ensures ∙ sym (some-lent another all a.keys.now same)
    ∙ sym (ap (λ b. not b || some_key another all)
    (served-lent all a.keys.now same (roles_of a.policy.now.scheme)
    ∙ sym c.is_served.ensures ∙ some))
