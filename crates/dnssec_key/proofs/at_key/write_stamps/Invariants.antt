-- The stamps so far are written.
use Rattle.std.proofs.Common.{◌≡◌, take}
use Rattle.dnssec_key.specs.{Stamping.stamps_after, Inner.Columns.writes_of}
use Rattle.dnssec_key.proofs.at_key.write_stamps.Given as goal

abbrev pub invariant-loop-stamp : goal.invariant-loop-stamp
invariant-loop-stamp l =
    l.stamps ≡ stamps_after (writes_of (take l.stamp-index l.writes)) l.key l.now l.initial.stamps
