-- Each turn of the loop answers the call of one line.
use Rattle.std.proofs.Common.{string_bytes}
use Rattle.dnssec_record.proofs.Made.{fault_made, memory_made, none_made}
use Rattle.dnssec_record.proofs.Running.{all_answered, one_more}
use Rattle.dnssec_record.proofs.script.answer_to.Goals as goal

pub loop-text-init : goal.loop-text-init
loop-text-init c =
    none_made _ _ c.in_ok-name.ensures.ok (c.in_ok-zone.ensures.follows, c.new-text.ensures.bytes)

pub loop-text-preserved : goal.loop-text-preserved
loop-text-preserved c =
    one_more _ _ _ _ _ c.loop-text.invariant c.in_ok-statement.ensures.ok c.in-Some.is
    c.in-Ok.ensures c.in_ok-push_answer.ensures

pub returns-in_err-push_answer-clause-err : goal.returns-in_err-push_answer-clause-err
returns-in_err-push_answer-clause-err c =
    memory_made c.loop-text.invariant _ c.from_residual-in_err-push_answer.ensures.1

pub loop-text-preserved-in_ok-push_answer : goal.loop-text-preserved-in_ok-push_answer
loop-text-preserved-in_ok-push_answer c =
    one_more _ _ _ _ _ c.loop-text.invariant c.in_ok-statement.ensures.ok c.in-Some.is
    c.in-Ok.ensures c.in_ok-push_answer.ensures

pub returns-in_err-push_closing-clause-err : goal.returns-in_err-push_closing-clause-err
returns-in_err-push_closing-clause-err c =
    memory_made c.loop-text.invariant _ c.from_residual-in_err-push_closing.ensures.1

pub returns-clause-ok : goal.returns-clause-ok
returns-clause-ok c =
    let at = c.loop-text in
    all_answered _ (string_bytes at.text) _ at.zone at.invariant c.in_ok-statement.ensures.ok
    c.in_default.is c.in_ok-push_closing.ensures

pub returns-in_err-statement-clause-err : goal.returns-in_err-statement-clause-err
returns-in_err-statement-clause-err c =
    fault_made _ _ c.loop-text.invariant c.from_residual-in_err-statement.result
    c.from_residual-in_err-statement.ensures.1 c.in_err-statement.ensures.err
