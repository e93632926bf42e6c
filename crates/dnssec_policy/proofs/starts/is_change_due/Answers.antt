-- It may begin, and is wanted.
use Rattle.std.proofs.Common.{◌∙◌, ap, sym, Bool}
use Rattle.std.specs.Prelude.{◌&&◌}
use Rattle.dnssec_policy.specs.Keys.{wants_others}
use Rattle.dnssec_policy.proofs.starts.is_change_due.Goals as goal

pub returns-then-may_begin : goal.returns-then-may_begin
returns-then-may_begin c end same =
    let keys = c.args.state.now.keyset.now.keys in
    let wants = wants_others c.args.policy.now keys in
    c.wants_others.ensures keys same
    ∙ sym (ap (λ (b : Bool). b && wants) (sym (c.may_begin.ensures end) ∙ c.if-may_begin.true))

pub returns-else-may_begin : goal.returns-else-may_begin
returns-else-may_begin c end same =
    let wants = wants_others c.args.policy.now c.args.state.now.keyset.now.keys in
    c.if-may_begin.false
    ∙ sym (ap (λ (b : Bool). b && wants) (sym (c.may_begin.ensures end) ∙ c.if-may_begin.false))
