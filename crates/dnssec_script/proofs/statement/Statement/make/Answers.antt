-- The recorder makes the call of the statement, and answers its entry.
use Rattle.std.proofs.Common.{◌∙◌, ap, sym}
use Rattle.std.proofs.lemmas.Result.{IfOk-weaker}
use Rattle.dnssec_script.specs.Inner.Statement.{statement_says}
use Rattle.dnssec_script.proofs.statement.Statement.make.Goals as goal

pub returns-in-Call : goal.returns-in-Call
returns-in-Call c = IfOk-weaker c.make.result _ _ (λ e made. record {
  call = c.in-Call.call;
  is_call = ap statement_says (sym c.in-Call.is);
  records = made;
}) c.make.ensures.ok

pub returns-in-Start : goal.returns-in-Start
returns-in-Start c = IfOk-weaker c.make-in-Start.result _ _ (λ e made. record {
  call = c.call.result;
  is_call = c.call.ensures ∙ ap statement_says (sym c.in-Start.is);
  records = made;
}) c.make-in-Start.ensures.ok
