-- The highest TTLs of the facts so far.
use Rattle.std.proofs.Common.{ℕ, List, map, take}
use denote.Bor.{now}
use Rattle.dnssec_network.specs.{declared.fact.Fact.Fact, Text.Reading.AreFacts}
use Rattle.dnssec_policy.specs.Text.Lint.{AreHighest}
use Rattle.dnssec_policy.proofs.automatic.zone_notes.highest_after.Given as goal

abbrev pub invariant-loop-line : goal.invariant-loop-line
invariant-loop-line l = (moments : List ℕ) (facts : List Fact) →
    AreFacts moments (map now l.lines) facts →
    AreHighest l.before (take l.line-index facts) l.highest
