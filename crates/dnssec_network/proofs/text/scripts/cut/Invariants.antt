-- The parts so far, and what is left of the text, are the parts of the text.
use Rattle.std.proofs.Common.{◌≡◌, ◌≤◌, ◌++◌, drop, map}
use Rattle.std.specs.List.{slice_range}
use Rattle.dnssec_network.specs.Text.Scripts.{parts_after, parts_of}
use denote.Bor.{now}
use Rattle.dnssec_network.proofs.text.scripts.cut.Given as goal

abbrev pub invariant-loop-index : goal.invariant-loop-index
invariant-loop-index l =
    (l.begin ≤ l.index)
    × (parts_of l.text ≡ map now l.parts.items
    ++ parts_after l.line_begins (slice_range l.text l.begin l.index) (drop l.index l.text))
