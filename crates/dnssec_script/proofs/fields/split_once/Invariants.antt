-- Both loops have seen no such byte so far.
use Rattle.std.proofs.Common.{◌≤◌, ◌-◌, length}
use Rattle.dnssec_script.proofs.Cuts.{HasNone}
use Rattle.dnssec_script.proofs.fields.split_once.Given as goal

abbrev pub invariant-loop-end : goal.invariant-loop-end
invariant-loop-end l = (l.end ≤ length l.text) × HasNone l.byte l.text l.end

abbrev pub decreases-loop-end : goal.decreases-loop-end
decreases-loop-end l = length l.text - l.end

abbrev pub invariant-loop-end-2 : goal.invariant-loop-end-2
invariant-loop-end-2 l = (l.end ≤ length l.text) × HasNone l.byte l.text l.end

abbrev pub decreases-loop-end-2 : goal.decreases-loop-end-2
decreases-loop-end-2 l = length l.text - l.end
