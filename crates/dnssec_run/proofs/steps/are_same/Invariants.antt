-- All keys are the same if the keys that are left are.
use Rattle.std.proofs.Common.{◌≡◌, map, drop}
use Rattle.dnssec_run.specs.{Origins.same_ids, Published.id_of}
use Rattle.dnssec_run.proofs.steps.are_same.Given as goal

abbrev pub invariant-loop-key : goal.invariant-loop-key
invariant-loop-key l = same_ids (map id_of l.one) (map id_of l.other)
    ≡ same_ids (map id_of l.rest) (map id_of (drop l.key-index l.other))
