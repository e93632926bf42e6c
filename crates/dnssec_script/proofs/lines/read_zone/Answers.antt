-- The text stands after the word.
use Rattle.std.proofs.{Common.rules, lemmas.Option.IfSome_then, lemmas.Result.IfErr-weaker}
use Rattle.std.proofs.lemmas.Result.{IfOk-weaker}
use Rattle.dnssec_script.proofs.Zone.{zone_none}
use Rattle.dnssec_script.proofs.lines.read_zone.Goals as goal

pub returns-in-Some-clause-found : goal.returns-in-Some-clause-found
returns-in-Some-clause-found c = IfOk-weaker c.zone_name.result _ _
    (λ o is. IfSome_then o is (λ name spelled. (c.in-Some.text.now, search rules, spelled)))
    c.zone_name.ensures.found

pub returns-in-Some-clause-none : goal.returns-in-Some-clause-none
returns-in-Some-clause-none c = IfOk-weaker c.zone_name.result _ _
    (zone_none c.args.line.now c.in-Some.text.now (search rules)) c.zone_name.ensures.none

pub returns-in-Some-clause-memory : goal.returns-in-Some-clause-memory
returns-in-Some-clause-memory c = IfErr-weaker c.zone_name.result _ _
    (λ e named. (named.0, (c.in-Some.text.now, search rules, named.1))) c.zone_name.ensures.memory
