-- The entries so far are those of the calls of the lines so far.
use Rattle.dnssec_run.specs.Recorder.{Records}
use Rattle.dnssec_script.specs.Inner.Reading.{lines_left}
use Rattle.dnssec_record.proofs.Made.{HasMade}
use Rattle.dnssec_record.proofs.script.record_script.Given as goal

abbrev pub invariant-loop-entries : goal.invariant-loop-entries
invariant-loop-entries l =
    HasMade l.script l.lines (λ name calls entries. Records name calls l.entries.items l.recorder)

abbrev pub decreases-loop-entries : goal.decreases-loop-entries
decreases-loop-entries l = lines_left l.lines
