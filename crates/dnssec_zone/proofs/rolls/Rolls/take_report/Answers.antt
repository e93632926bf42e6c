-- A phase that awaits another report is written back as it was.
use Rattle.std.proofs.Common.{◌≡◌, Some, rules, ◌∙◌}
use Rattle.dnssec_zone.specs.Rolls.{phase_of, rolls_in_map, with_phase}
use Rattle.dnssec_zone.proofs.Phases.{phases, put-same}
use Rattle.dnssec_zone.proofs.rolls.Rolls.take_report.Goals as goal

pub returns-then-not-awaits_report-clause-err : goal.returns-then-not-awaits_report-clause-err
returns-then-not-awaits_report-clause-err c =
    let m = c.self.inside.phases in
    let n = c.get_mut.follows.lender c.in-Some.phase.now in
    let roll = c.args.roll in
    let phase = c.in-Some.phase.now in
    let found : phase_of (rolls_in_map m) roll ≡ Some phase = search (rules, phases) in
    let is : rolls_in_map n ≡ with_phase (rolls_in_map m) roll (Some phase) =
    search (rules, phases) in
    is ∙ put-same (rolls_in_map m) roll (Some phase) found ∙ c.self.view_is
