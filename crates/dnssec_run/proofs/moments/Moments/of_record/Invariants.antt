-- The moments of the entries so far.
use Rattle.std.proofs.Common.{◌≡◌, take}
use Rattle.dnssec_run.specs.Moments.{moments_of}
use Rattle.dnssec_run.proofs.moments.Moments.of_record.Given as goal

abbrev pub invariant-loop-entry : goal.invariant-loop-entry
invariant-loop-entry l = l.moments ≡ moments_of (take l.entry-index l.entries)
