-- The first cause of the rolls so far.
use Rattle.std.proofs.Common.{◌≡◌, None, take}
use Rattle.dnssec_policy.{specs.Code.end_of, specs.Code.view_of, proofs.Silence.first_why}
use Rattle.dnssec_policy.proofs.unmet.rolls_why.Given as goal

abbrev pub invariant-loop-roll : goal.invariant-loop-roll
invariant-loop-roll l =
    l.first ≡ first_why (view_of l.state (end_of l.ends)) None (take l.roll-index l.roll-items)
