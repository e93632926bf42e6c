-- The session that has made the call takes this one's place.
use Rattle.std.proofs.Common.{[], length-append, refl, subst, ◌∙◌, ◌∷◌}
use Rattle.dnssec_record.specs.Session.{IsTrial}
use Rattle.dnssec_record.proofs.session.Session.accept.Goals as goal

pub returns-in-Accepted-clause-ok : goal.returns-in-Accepted-clause-ok
returns-in-Accepted-clause-ok c = λ lines entries so.
    let accepts = subst (IsTrial _ _) c.in-Accepted.is c.in_ok-next.ensures.ok lines entries so in
    let entry = accepts.goes_on.entry in let stands = accepts.goes_on.stands in (
      c.calls.ensures stands.name stands.calls _ stands.stands
          ∙ length-append entries (entry ∷ []),
      accepts,
    )

pub returns-in-Refused-clause-ok : goal.returns-in-Refused-clause-ok
returns-in-Refused-clause-ok c = (
  refl,
  subst (IsTrial _ _) c.in-Refused.is c.in_ok-next.ensures.ok,
)

pub returns-in-Malformed-clause-ok : goal.returns-in-Malformed-clause-ok
returns-in-Malformed-clause-ok c = (
  refl,
  subst (IsTrial _ _) c.in-Malformed.is c.in_ok-next.ensures.ok,
)
