-- The most urgent of what the rolls so far have to say.
use Rattle.std.proofs.Common.{◌≡◌, take}
use Rattle.dnssec_policy.specs.Code.{end_of, todo_of, view_of}
use Rattle.dnssec_policy.{specs.Todo.Rest, proofs.Order.best_of}
use Rattle.dnssec_policy.proofs.in_progress.rolls_next.Given as goal

abbrev pub invariant-loop-roll : goal.invariant-loop-roll
invariant-loop-roll l = todo_of l.state.moment l.best
    ≡ best_of (view_of l.state (end_of l.ends)) Rest (take l.roll-index l.roll-items)
