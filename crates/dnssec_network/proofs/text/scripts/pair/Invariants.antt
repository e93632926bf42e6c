-- The scripts so far, and those among the parts that are left, are those among all parts.
use Rattle.std.proofs.Common.{◌≡◌, ◌≤◌, ◌++◌, ◌-◌, drop, length, map}
use Rattle.std.specs.Prelude.{◌==◌}
use Rattle.dnssec_network.specs.Text.Scripts.{as_noted, scripts_after, scripts_among}
use denote.Bor.{now}
use Rattle.dnssec_network.proofs.text.scripts.pair.Given as goal

abbrev pub decreases-loop-at : goal.decreases-loop-at
decreases-loop-at l = length l.parts - l.at

abbrev pub invariant-loop-at : goal.invariant-loop-at
invariant-loop-at l =
    (l.at ≤ length l.parts)
    × (scripts_among (map now l.parts) ≡ map as_noted l.scripts.items
    ++ scripts_after (l.at == 0) (drop l.at (map now l.parts)))
