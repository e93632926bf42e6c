-- One role after another.
use Rattle.std.proofs.Common.{Bor, slice_get, drop, ◌+◌, ◌∙◌, ap, sym, arith, List, ℕ}
use Rattle.dnssec_zone.specs.Start.{texts}
use Rattle.dnssec_policy.specs.declared.policy.KeyRole.TheVariants as role
use Rattle.dnssec_policy.specs.Keys.{first_of, is_new, new_keys, references_where}
use Rattle.dnssec_policy.proofs.Loops.{first-none, first-some, onto, role-found}
use Rattle.dnssec_policy.proofs.Loops.{role-missing, texts-push, here}
use Rattle.dnssec_policy.proofs.starts.new_keys.Goals as goal

pub returns-in-None : goal.returns-in-None
returns-in-None c all same =
    let a = c.args in
    let i = c.loop-role.role-index in
    let r = here a.policy.now all a.roles.now i role.Ksk c.loop-role-test.true
    (texts c.loop-role.new.items) in
    let p = is_new a.policy.now r in
    let is = ap (references_where p) same ∙ sym (c.in_ok-found.ensures) in
    let none = ap (first_of r) is
    ∙ first-none r c.in_ok-found.found.items
    (ap (λ (xs : List (Bor (List ℕ))). slice_get xs 0) (sym c.deref.ensures.value)
    ∙ sym (c.in-None.ensures).value) in
    sym (role-missing a.policy.now all a.roles.now i role.Ksk c.loop-role-test.true
    (texts c.loop-role.new.items) none) ∙ c.loop-role.invariant all same

pub loop-role-preserved : goal.loop-role-preserved
loop-role-preserved c all same =
    let a = c.args in
    let i = c.loop-role.role-index in
    let qs = texts c.loop-role.new.items in
    let r = here a.policy.now all a.roles.now i role.Ksk c.loop-role-test.true qs in
    let p = is_new a.policy.now r in
    let is = ap (references_where p) same ∙ sym (c.in_ok-found.ensures) in
    let q = c.in-Some.reference.now in
    let one = ap (first_of r) is
    ∙ first-some r c.in_ok-found.found.items q
    (ap (λ (xs : List (Bor (List ℕ))). slice_get xs 0) (sym c.deref.ensures.value)
    ∙ sym (c.in-Some.ensures).value) in
    let pushed = ap texts (c.in_ok-push-in-Some.ensures).items
    ∙ texts-push c.loop-role.new.items q in
    ap (λ (qs : List (List ℕ)). onto qs (new_keys a.policy.now all
    (drop (i + 1) a.roles.now))) pushed
    ∙ role-found a.policy.now all a.roles.now i role.Ksk c.loop-role-test.true qs q.now (i + 1)
    (omega arith) one ∙ c.loop-role.invariant all same
