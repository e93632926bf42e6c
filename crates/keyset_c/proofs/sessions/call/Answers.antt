-- The session made the call of the line, its moment is kept, and the answer beside it.
use Rattle.std.proofs.Common.{refl, subst}
use Rattle.dnssec_record.specs.Session.{Takes}
use Rattle.keyset_c.proofs.sessions.call.Goals as goal

pub returns-in-Ok-clause-called : goal.returns-in-Ok-clause-called
returns-in-Ok-clause-called c = λ _.
    let takes = subst (Takes _ _ _) c.in-Ok-Answered.field-0-is c.in-Ok-Answered.ensures.ok in
    record {
      goes_on = takes;
      moments = λ lines entries so.
          let on = takes lines entries so in
          c.in-Ok.ensures.ok on.stands.name on.stands.calls entries on.entry
          on.stands.stands;
      notes = refl;
    }
