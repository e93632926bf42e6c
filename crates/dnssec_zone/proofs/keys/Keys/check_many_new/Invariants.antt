-- No entry so far has a fault, and the set has the tags of the keys before.
use Rattle.std.proofs.Common.{◌≡◌, ℕ, length, take, drop, []}
use Rattle.std.specs.{Prelude.◌||◌, FinMap.get}
use Rattle.dnssec_zone.specs.Inner.Bits.{is_set}
use Rattle.dnssec_zone.specs.Inner.{NewKeys.AreOf, Tags.HasListed}
use Rattle.dnssec_zone.specs.Start.{texts, is_listed, has_algorithm, new_fault}
use Rattle.dnssec_zone.proofs.keys.Keys.check_many_new.Given as goal

-- the tags of the old keys so far
abbrev pub invariant-loop-entry : goal.invariant-loop-entry
invariant-loop-entry l = (length l.taken ≡ 1024)
    × HasListed l.taken l.self (is_listed (texts (take l.entry-index l.old)))

-- what is wrong first stands in what is left; the tags of the keys listed so far, and what is asked
-- of the new ones
abbrev pub invariant-loop-reference : goal.invariant-loop-reference
invariant-loop-reference l =
    let i = l.reference-index in
    (new_fault l.roll (get l.self) (texts l.old) (texts (take i l.new)) (texts (drop i l.new))
    ≡ new_fault l.roll (get l.self) (texts l.old) [] (texts l.new))
    × (length l.taken ≡ 1024)
    × HasListed l.taken l.self (λ q. is_listed (texts l.old) q || is_listed (texts (take i l.new))
    q)
    × ((a : ℕ) → is_set l.keys.algorithms a ≡ has_algorithm (get l.self) (texts (take i l.new)) a)
    × AreOf (get l.self) (texts (take i l.new)) l.keys
