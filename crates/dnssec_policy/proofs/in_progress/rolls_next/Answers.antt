-- All rolls had their say.
use Rattle.std.proofs.Common.{◌∙◌, ap}
use Rattle.dnssec_policy.specs.{Code.end_of, Code.view_of, Todo.Rest}
use Rattle.dnssec_policy.proofs.{Loops.over-all, Order.best_of}
use Rattle.dnssec_policy.proofs.in_progress.rolls_next.Goals as goal

pub returns : goal.returns
returns c =
    c.loop-roll.invariant ∙ ap (best_of (view_of c.args.state.now (end_of c.args.ends.now)) Rest)
    (over-all _ _ c.loop-roll-test.false c.all_rolls-roll-items.ensures)
