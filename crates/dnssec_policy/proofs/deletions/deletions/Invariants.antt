-- The most urgent of what the keys so far have to say.
use Rattle.std.proofs.Common.{◌≡◌, take}
use Rattle.dnssec_policy.specs.Code.{todo_of, view_of}
use Rattle.dnssec_policy.proofs.Loops.{lent_so_far, no_end}
use Rattle.dnssec_policy.proofs.deletions.deletions.Given as goal

abbrev pub invariant-loop-entry : goal.invariant-loop-entry
invariant-loop-entry l = todo_of l.state.moment l.best
    ≡ lent_so_far l.policy (view_of l.state no_end) (take l.entry-index l.keys)
