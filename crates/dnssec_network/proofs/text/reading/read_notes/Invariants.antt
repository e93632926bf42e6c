-- The lines so far say the facts so far.
use Rattle.std.proofs.Common.{◌≡◌, ◌+◌, length, map}
use denote.Bor.{now}
use Rattle.dnssec_network.specs.Text.Reading.{AreFacts}
use Rattle.dnssec_network.proofs.text.reading.read_notes.Given as goal

abbrev pub invariant-loop-line : goal.invariant-loop-line
invariant-loop-line l =
    (l.number ≡ length l.yielded + 1)
    × (l.notes.before ≡ l.initial.notes.before)
    × AreFacts l.moments (map now l.yielded) l.notes.facts
