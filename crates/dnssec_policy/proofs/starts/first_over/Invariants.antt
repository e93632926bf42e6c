-- The first moment so far.
use Rattle.std.{proofs.Common.◌≡◌, proofs.Common.None, proofs.Common.take, specs.List.fold}
use Rattle.dnssec_policy.proofs.Loops.{aged_entry}
use Rattle.dnssec_policy.proofs.starts.first_over.Given as goal

abbrev pub invariant-loop-entry : goal.invariant-loop-entry
invariant-loop-entry l =
    l.best ≡ fold (aged_entry l.role l.renewal) None (take l.entry-index l.keys)
