-- With what is left to read, what the lines so far have said is all that they say.
use Rattle.std.proofs.Common.{◌≡◌, ◌+◌, drop, map}
use denote.Bor.{now}
use Rattle.dnssec_policy.specs.Text.{Reading.read_from, Wishes.no_wish}
use Rattle.dnssec_policy.proofs.text.reading.read_wishes.Given as goal

abbrev pub invariant-loop-index : goal.invariant-loop-index
invariant-loop-index l = read_from l.scheme (l.index + 2) l.draft (drop l.index (map now l.lines))
    ≡ read_from l.scheme 2 no_wish (map now l.lines)
