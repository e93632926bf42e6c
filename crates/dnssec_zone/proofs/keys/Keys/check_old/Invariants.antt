-- No entry so far has a fault.
use Rattle.std.proofs.Common.{◌≡◌, ℕ, length, take, drop}
use Rattle.std.specs.FinMap.{get}
use Rattle.dnssec_zone.specs.Inner.Bits.{is_set}
use Rattle.dnssec_zone.specs.Start.{texts, has_algorithm, old_fault}
use Rattle.dnssec_zone.proofs.keys.Keys.check_old.Given as goal

-- what is wrong first stands in what is left; and the algorithms of the keys so far
abbrev pub invariant-loop-reference : goal.invariant-loop-reference
invariant-loop-reference l =
    let i = l.reference-index in
    (old_fault l.roll (get l.self) (texts (drop i l.old))
    ≡ old_fault l.roll (get l.self) (texts l.old))
    × (length l.algorithms ≡ 4)
    × ((a : ℕ) → is_set l.algorithms a ≡ has_algorithm (get l.self) (texts (take i l.old)) a)
