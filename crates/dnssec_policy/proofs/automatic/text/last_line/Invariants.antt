-- No line feed stands from here on.
use Rattle.std.proofs.Common.{◌≤◌, length}
use Rattle.dnssec_policy.proofs.Zone.Asked.{IsOneLine}
use Rattle.dnssec_policy.proofs.automatic.text.last_line.Given as goal

abbrev pub invariant-loop-at : goal.invariant-loop-at
invariant-loop-at l = (l.at ≤ length l.text) × IsOneLine l.text l.at

abbrev pub decreases-loop-at : goal.decreases-loop-at
decreases-loop-at l = l.at
