-- It may begin, and all keys in use are wanted.
use Rattle.std.proofs.Common.{◌∙◌, ap, sym, Bool}
use Rattle.std.specs.Prelude.{not, ◌&&◌}
use Rattle.dnssec_zone.specs.Keys.{some_key}
use Rattle.dnssec_policy.{specs.Keys.is_unwanted, proofs.Loops.some-lent}
use Rattle.dnssec_policy.proofs.starts.may_renew.Goals as goal

pub returns-then-may_begin : goal.returns-then-may_begin
returns-then-may_begin c end same =
    let a = c.args in
    let another = is_unwanted a.policy.now in
    let keys = a.state.now.keyset.now.keys in
    ap not (c.some_unwanted.ensures ∙ sym (some-lent another keys a.keys.now same))
    ∙ sym (ap (λ (b : Bool). b && not (some_key another keys))
    (sym (c.may_begin.ensures end) ∙ c.if-may_begin.true))

pub returns-else-may_begin : goal.returns-else-may_begin
returns-else-may_begin c end same =
    let some = some_key (is_unwanted c.args.policy.now) c.args.state.now.keyset.now.keys in
    c.if-may_begin.false
    ∙ sym (ap (λ (b : Bool). b && not some) (sym (c.may_begin.ensures end) ∙ c.if-may_begin.false))
