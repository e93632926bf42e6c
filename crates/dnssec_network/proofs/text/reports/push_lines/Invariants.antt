-- The lines of the rolls so far.
use Rattle.std.proofs.Common.{◌≡◌, ◌++◌, take, string_bytes}
use Rattle.std.specs.List.{flat_map}
use Rattle.dnssec_run.specs.Steps.{step_of}
use Rattle.dnssec_network.specs.Text.Due.{line_for}
use Rattle.dnssec_network.proofs.text.reports.push_lines.Given as goal

abbrev pub invariant-loop-roll : goal.invariant-loop-roll
invariant-loop-roll l =
    string_bytes l.text ≡ string_bytes l.initial.text
    ++ flat_map (line_for l.keyset.rolls (step_of l.steps) l.moments l.notes.before l.notes.facts
    l.seconds) (take l.roll-index l.rolls)
