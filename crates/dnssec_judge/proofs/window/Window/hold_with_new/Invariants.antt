-- The spans from the place on passed the test.
use Rattle.dnssec_judge.proofs.Base.{◌≡◌, ◌≤◌, holds, length, new_hold, spans_of, take}
use Rattle.dnssec_judge.proofs.window.Window.hold_with_new.Given as goal

abbrev pub invariant-loop-before : goal.invariant-loop-before
invariant-loop-before l = record {
  within : l.place ≤ length (spans_of l.other);
  passed : new_hold l.tested (holds l.link l.is_above) (take l.place (spans_of l.other))
      (spans_of l.self)
      ≡ new_hold l.tested (holds l.link l.is_above) (spans_of l.other) (spans_of l.self);
}

abbrev pub decreases-loop-before : goal.decreases-loop-before
decreases-loop-before l = l.place
