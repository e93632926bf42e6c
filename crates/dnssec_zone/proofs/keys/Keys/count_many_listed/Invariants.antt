-- What has been counted so far, and the tags of the keys before.
use Rattle.std.proofs.Common.{◌≡◌, ◌≤◌, length, take}
use Rattle.dnssec_zone.specs.Inner.{Counts.count_in, Counts.listed_passes, Tags.HasListed}
use Rattle.dnssec_zone.specs.Start.{texts, is_listed, serves_as_kept}
use Rattle.dnssec_zone.proofs.keys.Keys.count_many_listed.Given as goal

-- what is counted so far, and the tags of the keys so far
abbrev pub invariant-loop-reference : goal.invariant-loop-reference
invariant-loop-reference l =
    let qs = texts (take l.reference-index l.old) in
    (l.count ≤ l.reference-index)
    × (l.count ≡ count_in (listed_passes (serves_as_kept l.want) qs) l.self)
    × (length l.earlier ≡ 1024) × HasListed l.earlier l.self (is_listed qs)
