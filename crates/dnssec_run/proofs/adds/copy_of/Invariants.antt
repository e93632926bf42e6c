-- The copies so far.
use Rattle.std.proofs.Common.{◌≡◌, map, take}
use Rattle.dnssec_run.specs.Adds.{listed_of}
use Rattle.dnssec_run.proofs.adds.copy_of.Given as goal

abbrev pub invariant-loop-key : goal.invariant-loop-key
invariant-loop-key l = map listed_of l.copies.items ≡ map listed_of (take l.key-index l.keys)
