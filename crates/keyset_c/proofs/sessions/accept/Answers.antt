-- The session tried the line. The one that has made its call takes its place, and the moment is
-- kept.
use Rattle.std.proofs.Common.{refl, subst}
use Rattle.dnssec_record.specs.Session.{IsTrial}
use Rattle.keyset_c.proofs.sessions.accept.Goals as goal

pub returns-in-Ok-clause-accepted : goal.returns-in-Ok-clause-accepted
returns-in-Ok-clause-accepted c = λ _.
    let accepts = subst (IsTrial _ _) c.in-Ok-Accepted.field-0-is c.in-Ok-Accepted.ensures.ok in
    record {
      accepts = accepts;
      moments = λ lines entries so.
          let on = (accepts lines entries so).goes_on in
          c.in-Ok.ensures.ok on.stands.name on.stands.calls entries on.entry
          on.stands.stands;
      notes = refl;
    }

pub returns-in-Ok-Refused-clause-refused : goal.returns-in-Ok-Refused-clause-refused
returns-in-Ok-Refused-clause-refused c = λ _. record {
  session = refl;
  refuses = subst (IsTrial _ _) c.in-Ok-Refused.field-0-is c.in-Ok-Refused.ensures.ok;
  moments = refl;
  notes = refl;
}
