-- What has been listed so far.
use Rattle.std.proofs.Common.{◌≡◌, ◌++◌, ◌+◌, ◌≤◌, take}
use Rattle.std.specs.Prelude.{vec_len, vec_capacity}
use Rattle.dnssec_zone.specs.{Start.texts, Inner.Entries.entries_of}
use Rattle.dnssec_zone.proofs.rolls.Lists.list.Given as goal

-- the references so far are looked at, and each took one place at most
abbrev pub invariant-loop-reference : goal.invariant-loop-reference
invariant-loop-reference l =
    (l.self.entries.items ≡ l.initial.self.entries.items
    ++ entries_of l.keys l.roll l.part (texts (take l.reference-index l.references)))
    × (vec_len l.self.entries ≤ vec_len l.initial.self.entries + l.reference-index)
    × (vec_capacity l.self.entries ≡ vec_capacity l.initial.self.entries)
