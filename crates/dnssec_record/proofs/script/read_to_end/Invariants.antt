-- What was read so far came from the input, which has not failed; each turn adds some bytes.
use Rattle.std.proofs.Common.{◌≡◌, ◌-◌, ◌^◌}
use Rattle.std.specs.{Prelude.vec_len, Io.KnownBytes.Consumes}
use Rattle.dnssec_record.proofs.script.read_to_end.Given as goal

abbrev pub invariant-loop-script : goal.invariant-loop-script
invariant-loop-script g l =
    Consumes (g.R.Source.left l.initial.input) (g.R.Source.left l.input) l.script.items
    × (g.R.Source.faults l.input ≡ g.R.Source.faults l.initial.input)

abbrev pub decreases-loop-script : goal.decreases-loop-script
decreases-loop-script g l = 2 ^ 63 - vec_len l.script
