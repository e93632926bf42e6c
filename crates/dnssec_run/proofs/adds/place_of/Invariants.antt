-- The key isn't among those that were looked at.
use Rattle.std.proofs.Common.{◌≡◌, drop, map}
use Rattle.dnssec_run.specs.Adds.{listed_of, listing_of}
use Rattle.dnssec_run.proofs.adds.place_of.Given as goal

abbrev pub invariant-loop-place : goal.invariant-loop-place
invariant-loop-place l = listing_of (map listed_of (drop l.place l.keys)) l.reference
    ≡ listing_of (map listed_of l.keys) l.reference
