-- The first line is that before the first line feed.
use Rattle.std.proofs.Common.{◌==◌, ◌∙◌, [], ap, refl, subst, sym}
use Rattle.std.specs.List.{slice_split}
use Rattle.std.proofs.lemmas.Result.{err_from_is_err_and}
use Rattle.dnssec_script.specs.Script.{IsFirstOf, NamesZone, line_of}
use Rattle.dnssec_script.proofs.Judging.{begins, zone_first}
use Rattle.dnssec_script.proofs.lines.Lines.begin.Goals as goal

pub returns-in_err-name-clause-err : goal.returns-in_err-name-clause-err
returns-in_err-name-clause-err c =
    let r = c.from_residual.result in
    let split = ap (slice_split (λ b. b == 10)) (sym c.without_end.ensures)
    ∙ c.split_once.ensures in
    let p = err_from_is_err_and r c.from_residual.ensures.1 in
    rw (p.1, p.2) (subst (λ ls. NamesZone (line_of ls 1)) (sym split)
    c.in_err-name.ensures.memory)

pub returns-in-Some-clause-ok : goal.returns-in-Some-clause-ok
returns-in-Some-clause-ok c = record {
  zone = c.split_once.result.0.now;
  taken = [];
  are_all = ap (slice_split (λ b. b == 10)) (sym c.without_end.ensures) ∙ c.split_once.ensures;
  names_zone = rw c.in-Some.is at c.in_ok-name.ensures.found;
  make = tt;
  count = refl;
}

pub returns-in-Some-clause-zone : goal.returns-in-Some-clause-zone
returns-in-Some-clause-zone c = begins (returns-in-Some-clause-ok c)

pub returns-in-None-clause-err : goal.returns-in-None-clause-err
returns-in-None-clause-err c =
    let unnamed = rw c.in-None.is at c.in_ok-name.ensures.none in
    subst (λ ls. IsFirstOf ls 1)
    (sym (ap (slice_split (λ b. b == 10)) (sym c.without_end.ensures) ∙ c.split_once.ensures))
    (zone_first _ _ unnamed)
