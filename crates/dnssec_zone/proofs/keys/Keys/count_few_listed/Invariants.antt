-- What has been counted so far.
use Rattle.std.proofs.Common.{◌≡◌, ◌≤◌, take}
use Rattle.dnssec_zone.specs.Inner.Counts.{count_in, listed_passes}
use Rattle.dnssec_zone.specs.Start.{texts, serves_as_kept}
use Rattle.dnssec_zone.proofs.keys.Keys.count_few_listed.Given as goal

-- what is counted so far
abbrev pub invariant-loop-i : goal.invariant-loop-i
invariant-loop-i l =
    let qs = texts (take l.i l.old) in
    (l.count ≤ l.i)
    × (l.count ≡ count_in (listed_passes (serves_as_kept l.want) qs) l.self)
