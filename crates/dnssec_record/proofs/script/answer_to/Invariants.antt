-- What was written so far answers the calls of the lines so far.
use Rattle.std.specs.Prelude.{string_bytes}
use Rattle.dnssec_script.specs.Inner.Reading.{lines_left}
use Rattle.dnssec_record.proofs.{Made.HasMade, Running.Answered}
use Rattle.dnssec_record.proofs.script.answer_to.Given as goal

abbrev pub invariant-loop-text : goal.invariant-loop-text
invariant-loop-text l = HasMade l.script l.lines (Answered (string_bytes l.text) l.zone)

abbrev pub decreases-loop-text : goal.decreases-loop-text
decreases-loop-text l = lines_left l.lines
