-- The text so far is read, and no fault stands in it: for `from_str`.
use Rattle.std.proofs.Common.{length}
use Rattle.dnssec_base.proofs.Reading.{Reads}
use Rattle.dnssec_base.proofs.name.read.read.Given as goal

abbrev pub invariant-pieces : goal.invariant-pieces
invariant-pieces l = Reads l.fn.text l.draft l.rest

abbrev pub decreases-pieces : goal.decreases-pieces
decreases-pieces l = length l.rest
