-- What was written so far is a front of the bytes, and the output has not failed.
use Rattle.std.proofs.Common.{◌≡◌, ℕ, List, ◌++◌, length}
use Rattle.std.specs.Io.KnownBytes.{Appends}
use Rattle.dnssec_record.proofs.script.write_all.Given as goal

abbrev pub invariant-loop-rest : goal.invariant-loop-rest
invariant-loop-rest g l =
    ((front : List ℕ) × (l.bytes ≡ front ++ l.rest)
    × Appends (g.W.Sink.taken l.initial.output) (g.W.Sink.taken l.output) front)
    × (g.W.Sink.faults l.output ≡ g.W.Sink.faults l.initial.output)

abbrev pub decreases-loop-rest : goal.decreases-loop-rest
decreases-loop-rest g l = length l.rest
