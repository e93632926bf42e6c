-- One more line makes one more call.
use Rattle.std.proofs.Common.{ap, sym, ◌++◌, ◌∙◌}
use Rattle.std.specs.Prelude.{codes}
use Rattle.dnssec_record.specs.Output.{reply_text}
use Rattle.dnssec_record.proofs.Sessions.{advances, answered}
use Rattle.dnssec_record.proofs.session.Session.call.Goals as goal

pub returns-clause-ok : goal.returns-clause-ok
returns-clause-ok c lines entries so =
    let said = rw c.in-Some.is at c.in-Ok.ensures.read in
    let made = c.in-Ok-take.ensures in
    let next = advances _ (made.comes so.name so.calls entries so.stands) c.fit.ensures in
    (answered lines entries c.args.line.now _ c.in-Some.statement _ so (sym said) made.call
    made.is_call next
    (c.in-Ok-push_answer.ensures ∙ ap (λ t. t ++ reply_text c.in-Ok-take.reply ++ codes "\n")
    c.in-Ok-with_capacity.ensures.bytes)).goes_on
