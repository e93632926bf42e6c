-- The recorder and the judge go on.
use Rattle.std.proofs.Common.{length, subst, sym}
use Rattle.dnssec_run.specs.{Changes.LeadTo, Changes.add_of, Safe.position_at, Safe.position_of}
use Rattle.dnssec_record.specs.declared.zone.ZoneState.{ZoneState}
use Rattle.dnssec_record.proofs.Running.{goes_on}
use Rattle.dnssec_record.proofs.zone.ZoneState.advance.Goals as goal

pub returns-clause-known : goal.returns-clause-known
returns-clause-known c name calls entries so =
    let next : ZoneState = record {
      recorder = c.advance.new.self;
      judge = c.note-noted.new.self;
      courses = c.args.self.now.courses;
    } in
    goes_on name calls entries c.args.self.now next c.args.call c.in-Ok.outcome so
    c.in-Ok.ensures.ok (λ es e mark moment lead. c.in-Ok-noted.ensures.ok add_of es e mark moment
    (subst (λ changes. LeadTo add_of changes (position_at es (length es)) (position_of e))
    (sym c.changes-changes.ensures) lead))
