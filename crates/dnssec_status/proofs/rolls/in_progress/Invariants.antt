-- The rolls in progress so far, each with the end of its wait.
use Rattle.std.proofs.Common.{◌≡◌, map, take}
use Rattle.std.specs.List.{All, flat_map}
use Rattle.dnssec_keyset.specs.WaitEnd.{SaysEnd}
use Rattle.dnssec_status.specs.declared.rolls.RollInProgress.{RollInProgress}
use Rattle.dnssec_status.specs.Rolls.{phase_pair, with_its_phase}
use Rattle.dnssec_zone.specs.Rolls.{phase_of}
use Rattle.dnssec_status.proofs.rolls.in_progress.Given as goal

abbrev pub invariant-loop-roll : goal.invariant-loop-roll
invariant-loop-roll l =
    (map phase_pair l.rolls.items
    ≡ flat_map (λ roll. with_its_phase roll (phase_of l.keyset.rolls roll))
    (take l.roll-index l.roll-items))
    × All (λ (g : RollInProgress). SaysEnd g.roll l.keyset g.end) l.rolls.items
