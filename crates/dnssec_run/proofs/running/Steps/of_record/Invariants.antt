-- The last steps so far, and the origins of the last sets.
use Rattle.std.proofs.Common.{◌≡◌, suc}
use Rattle.dnssec_key.specs.declared.roll.RollType.{RollType}
use Rattle.dnssec_run.specs.{Steps.last_step, Steps.origins_at, Steps.step_of}
use Rattle.dnssec_run.proofs.running.Steps.of_record.Given as goal

abbrev pub invariant-loop-index : goal.invariant-loop-index
invariant-loop-index l =
    ((roll : RollType) → step_of l.steps roll ≡ last_step l.entries roll (suc l.index))
    × (l.origins ≡ origins_at l.entries l.index)
