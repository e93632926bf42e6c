-- Those found so far.
use Rattle.std.proofs.Common.{◌≡◌, take}
use Rattle.dnssec_zone.specs.Start.{texts}
use Rattle.dnssec_policy.{specs.Code.passes, proofs.Loops.picked}
use Rattle.dnssec_policy.proofs.keys.references.Given as goal

abbrev pub invariant-loop-entry : goal.invariant-loop-entry
invariant-loop-entry l =
    texts l.found.items ≡ picked (passes l.pick) (take l.entry-index l.keys)
