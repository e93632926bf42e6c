use Rattle.std.proofs.Common.{◌≡◌, string_bytes, take}
use Rattle.std.specs.List.{filter, list_any}
use Rattle.dnssec_status.specs.Inner.Entries.{lists}
use Rattle.dnssec_status.proofs.listed.rolls_of.Given as goal

-- those of the kinds so far that listed it
abbrev pub invariant-loop-roll : goal.invariant-loop-roll
invariant-loop-roll l = l.rolls.items
    ≡ filter (λ roll. list_any (lists roll l.part (string_bytes l.reference)) l.listed)
    (take l.roll-index l.roll-items)
