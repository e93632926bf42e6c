-- All rolls were asked.
use Rattle.std.proofs.Common.{◌∙◌, None, ap}
use Rattle.dnssec_policy.specs.Code.{end_of, view_of}
use Rattle.dnssec_policy.proofs.{Loops.over-all, Silence.first_why}
use Rattle.dnssec_policy.proofs.unmet.rolls_why.Goals as goal

pub returns : goal.returns
returns c =
    c.loop-roll.invariant ∙ ap (first_why (view_of c.args.state.now (end_of c.args.ends.now)) None)
    (over-all _ _ c.loop-roll-test.false c.all_rolls-roll-items.ensures)
