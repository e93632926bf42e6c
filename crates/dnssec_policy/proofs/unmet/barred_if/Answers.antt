-- It is wanted, and may not begin; or not.
use Rattle.std.proofs.Common.{◌∙◌, ap, sym, Bool, true, Option, None, Some}
use Rattle.std.specs.Prelude.{not, ◌&&◌, if◌then◌else◌}
use Rattle.dnssec_key.specs.declared.roll.RollType.{RollType}
use Rattle.dnssec_policy.specs.declared.why.Why.{Why, TheVariants.Barred}
use Rattle.dnssec_policy.specs.{Code.view_of, Stuck.may_begin}
use Rattle.dnssec_policy.proofs.unmet.barred_if.Goals as goal

abbrev barred : Bool → Bool → RollType → Option Why
barred wanted may roll = if wanted && not may then Some (Barred roll) else None

pub returns-then-may_begin : goal.returns-then-may_begin
returns-then-may_begin c end =
    let may = may_begin (view_of c.args.state.now end) c.args.roll in
    sym (ap (λ (b : Bool). barred b may c.args.roll) c.if-not-wanted.false
    ∙ ap (λ (b : Bool). barred true b c.args.roll)
    (sym (c.may_begin.ensures end) ∙ c.if-may_begin.true))

pub returns : goal.returns
returns c end =
    let may = may_begin (view_of c.args.state.now end) c.args.roll in
    sym (ap (λ (b : Bool). barred b may c.args.roll) c.if-not-wanted.false
    ∙ ap (λ (b : Bool). barred true b c.args.roll)
    (sym (c.may_begin.ensures end) ∙ c.if-may_begin.false))
