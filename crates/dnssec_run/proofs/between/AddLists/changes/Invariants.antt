-- The changes so far are those of their adds.
use Rattle.std.specs.List.{All}
use Rattle.dnssec_run.specs.Between.{IsBetween}
use Rattle.dnssec_run.proofs.between.AddLists.changes.Given as goal

abbrev pub invariant-loop-added : goal.invariant-loop-added
invariant-loop-added l = All (IsBetween l.self l.now) l.changes.items
