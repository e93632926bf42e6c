-- The next line is that before the next line feed.
use Rattle.std.proofs.Common.{◌∙◌, ap, is_some, refl, rules, sym}
use Rattle.std.proofs.lemmas.Result.{err_from_is_err_and}
use Rattle.dnssec_script.specs.Inner.Reading.{parts_left}
use Rattle.dnssec_script.proofs.Judging.{begins, read_fault, read_on}
use Rattle.dnssec_script.proofs.lines.Lines.next.Goals as goal

pub returns-in_default-checked_add-clause-err : goal.returns-in_default-checked_add-clause-err
returns-in_default-checked_add-clause-err c script name calls read = begins read

pub returns-in_err-statement-clause-err : goal.returns-in_err-statement-clause-err
returns-in_err-statement-clause-err c =
    let r = c.from_residual.result in
    let p = err_from_is_err_and r c.from_residual.ensures.1 in
    rw (p.1, p.2) (λ script name calls read. begins read)

pub returns-in-Some-2-clause-ok : goal.returns-in-Some-2-clause-ok
returns-in-Some-2-clause-ok c =
    let left = ap (parts_left 10) c.in-Some.is ∙ c.split_once.ensures in
    let said = rw c.in-Some-2.is at c.in_ok-statement.ensures.read in
    read_on c.args.self.now (record {
      rest = c.split_once.result.1;
      count = c.in-Some-checked_add.count;
    }) c.split_once.result.0.now left (search rules) _ c.in-Some-2.statement refl (sym said)

pub returns-in-None-clause-err : goal.returns-in-None-clause-err
returns-in-None-clause-err c script name calls read =
    let left = ap (parts_left 10) c.in-Some.is ∙ c.split_once.ensures in
    let said = rw c.in-None.is at c.in_ok-statement.ensures.read in
    read_fault c.args.self.now (record {
      rest = c.split_once.result.1;
      count = c.in-Some-checked_add.count;
    }) c.split_once.result.0.now left (search rules) script name calls (ap is_some (sym said)) read
