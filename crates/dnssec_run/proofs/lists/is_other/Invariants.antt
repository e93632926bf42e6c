-- No key so far moves.
use Rattle.std.proofs.Common.{◌≡◌, drop}
use Rattle.std.specs.List.{list_any}
use Rattle.dnssec_run.specs.{Changes.moves_in, Safe.kind_of}
use Rattle.dnssec_run.proofs.lists.is_other.Given as goal

abbrev pub invariant-loop-change : goal.invariant-loop-change
invariant-loop-change l = list_any (moves_in (kind_of l.kind)) (drop l.change-index l.changes)
    ≡ list_any (moves_in (kind_of l.kind)) l.changes
