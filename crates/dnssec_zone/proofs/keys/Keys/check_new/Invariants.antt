-- No entry so far has a fault.
use Rattle.std.proofs.Common.{◌≡◌, ℕ, take, drop, []}
use Rattle.std.specs.FinMap.{get}
use Rattle.dnssec_zone.specs.Inner.Bits.{is_set}
use Rattle.dnssec_zone.specs.Inner.NewKeys.{AreOf}
use Rattle.dnssec_zone.specs.Start.{texts, has_algorithm, new_fault}
use Rattle.dnssec_zone.proofs.keys.Keys.check_new.Given as goal

-- what is wrong first stands in what is left; and what is asked of the keys so far
abbrev pub invariant-loop-i : goal.invariant-loop-i
invariant-loop-i l =
    (new_fault l.roll (get l.self) (texts l.old) (texts (take l.i l.new)) (texts (drop l.i l.new))
    ≡ new_fault l.roll (get l.self) (texts l.old) [] (texts l.new))
    × ((a : ℕ) → is_set l.keys.algorithms a ≡ has_algorithm (get l.self) (texts (take l.i l.new)) a)
    × AreOf (get l.self) (texts (take l.i l.new)) l.keys
