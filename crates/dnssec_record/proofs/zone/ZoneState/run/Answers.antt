-- The zone makes the call of the statement.
use Rattle.std.proofs.Common.{◌∙◌, ap, sym}
use Rattle.dnssec_script.specs.Inner.Statement.{statement_says}
use Rattle.dnssec_record.proofs.Made.{takes_on}
use Rattle.dnssec_record.proofs.zone.ZoneState.run.Goals as goal

pub returns-in-Call : goal.returns-in-Call
returns-in-Call c = takes_on _ _ _ _ _ (ap statement_says (sym c.in-Call.is)) _
    c.advance.ensures.known

pub returns-in-Start : goal.returns-in-Start
returns-in-Start c = takes_on _ _ _ _ _ (c.call.ensures ∙ ap statement_says (sym c.in-Start.is)) _
    c.advance-in-Start.ensures.known
