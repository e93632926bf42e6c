-- The call of the statement is made.
use Rattle.std.proofs.{Common.◌∙◌, Common.ap, Common.sym, lemmas.Result.IfOk-weaker}
use Rattle.dnssec_script.specs.Inner.Statement.{statement_says}
use Rattle.dnssec_policy.proofs.automatic.zone.Calls.take.Goals as goal

pub returns-in-Call : goal.returns-in-Call
returns-in-Call c =
    let is = ap statement_says (sym c.in-Call.is) in
    IfOk-weaker c.make.result _ _
    (λ m made. record { call = c.in-Call.call; is_call = is; goes_on = made }) c.make.ensures

pub returns-in-Start : goal.returns-in-Start
returns-in-Start c =
    let is = c.call.ensures ∙ ap statement_says (sym c.in-Start.is) in
    IfOk-weaker c.make-in-Start.result _ _
    (λ m made. record { call = c.call.result; is_call = is; goes_on = made })
    c.make-in-Start.ensures
