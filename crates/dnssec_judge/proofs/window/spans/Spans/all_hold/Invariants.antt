-- The sets up to the place passed.
use Rattle.dnssec_judge.proofs.Base.{◌≡◌, all_in, drop, holds}
use Rattle.dnssec_judge.proofs.window.spans.Spans.all_hold.Given as goal

abbrev pub invariant-loop-place : goal.invariant-loop-place
invariant-loop-place l = all_in (drop l.place l.self.list.items) (holds l.link l.is_above l.set)
    ≡ all_in l.self.list.items (holds l.link l.is_above l.set)
