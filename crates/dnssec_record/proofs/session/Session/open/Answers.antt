-- A session that has only its zone.
use Rattle.std.proofs.Common.{[], refl}
use Rattle.dnssec_script.specs.Script.{IsZoneLine}
use Rattle.dnssec_record.proofs.session.Session.open.Goals as goal

pub returns-in_default-clause-err : goal.returns-in_default-clause-err
returns-in_default-clause-err c =
    let unnamed = rw c.in_default.is at c.in_ok-name.ensures.none in (refl, unnamed)

pub returns-clause-ok : goal.returns-clause-ok
returns-clause-ok c =
    let named : IsZoneLine c.args.line.now c.in-Some.name =
    rw c.in-Some.is at c.in_ok-name.ensures.found in
    record {
      name = c.in-Some.name;
      calls = [];
      is_script = (named, tt);
      stands = c.in_ok-new.ensures;
    }
