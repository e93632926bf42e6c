-- A report retires what its phase asks to report.
use Rattle.dnssec_key.specs.declared.roll.Half.TheVariants.{First, Second}
use Rattle.dnssec_run.{specs.Safe.kind_of, proofs.Asked.Actions.retires-asked}
use Rattle.dnssec_run.proofs.caches.retires.Goals as goal

pub returns-in-First : goal.returns-in-First
returns-in-First c =
    rw (c.contains.ensures.value, c.report_of-report.ensures, c.actions_in.ensures, c.in-First.is)
    (retires-asked c.args.roll First (kind_of c.args.kind))

pub returns-in-Second : goal.returns-in-Second
returns-in-Second c =
    rw (
      c.contains-in-Second.ensures.value,
      c.report_of-report.ensures,
      c.actions_in-in-Second.ensures,
      c.in-Second.is,
    )
    (retires-asked c.args.roll Second (kind_of c.args.kind))
