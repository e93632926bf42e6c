-- The keys so far have numbers, and no other has lost its own.
use Rattle.dnssec_judge.specs.Adds.{AreNumbered, Grows, IsTable}
use Rattle.std.proofs.Common.{take}
use Rattle.dnssec_judge.proofs.sets.adds.Table.give_all.Given as goal

abbrev pub invariant-loop-change : goal.invariant-loop-change
invariant-loop-change l = IsTable l.initial.self → IsTable l.self × Grows l.initial.self l.self
    × AreNumbered l.self (take l.change-index l.changes)
