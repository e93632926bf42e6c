-- The latest moment so far.
use Rattle.std.{proofs.Common.◌≡◌, proofs.Common.Some, specs.List.fold, specs.HashMap.values}
use Rattle.dnssec_zone.specs.Inner.Over.{over_at}
use Rattle.dnssec_zone.proofs.Latest.{step}
use Rattle.dnssec_zone.proofs.over.over_from.Given as goal

-- the walk over the keys that are left begins at the latest moment so far
abbrev pub invariant-loop-key : goal.invariant-loop-key
invariant-loop-key l =
    let next = step (over_at l.roll l.half l.ttl) in
    fold next (Some l.over) l.key-iterator ≡ fold next (Some 0) (values l.keys)
