-- The tags that have been put in so far.
use Rattle.std.proofs.Common.{◌≡◌, ℕ, length, take}
use Rattle.dnssec_zone.specs.Inner.Bits.{is_set}
use Rattle.dnssec_zone.specs.Inner.Entries.{has_entry}
use Rattle.dnssec_zone.proofs.rolls.Lists.tags.Given as goal

-- the tags of the entries so far
abbrev pub invariant-loop-entry : goal.invariant-loop-entry
invariant-loop-entry l = (length l.tags ≡ 1024) × ((t : ℕ) → is_set l.tags t
    ≡ has_entry l.roll l.part t (take l.entry-index l.self.entries.items))
