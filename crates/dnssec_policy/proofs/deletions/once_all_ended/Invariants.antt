-- After the rolls so far.
use Rattle.std.proofs.Common.{◌≡◌, take}
use Rattle.dnssec_policy.specs.Code.{todo_of, view_of}
use Rattle.dnssec_policy.proofs.Loops.{ended_so_far, no_end}
use Rattle.dnssec_policy.proofs.deletions.once_all_ended.Given as goal

abbrev pub invariant-loop-roll : goal.invariant-loop-roll
invariant-loop-roll l = todo_of l.state.moment l.so_far
    ≡ ended_so_far (view_of l.state no_end) (todo_of l.state.moment l.fn.todo)
    (take l.roll-index l.roll-items)
