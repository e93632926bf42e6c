-- The calls of the lines so far are made, each had memory, and their moments are kept.
use Rattle.std.proofs.Common.{◌≡◌, ℕ, List}
use Rattle.dnssec_run.specs.Moments.{moments_of}
use Rattle.dnssec_run.specs.declared.{call.Call.Call, record.Entry.Entry}
use Rattle.dnssec_script.specs.Inner.Reading.{lines_left}
use Rattle.dnssec_record.{specs.Session.HadMemory, proofs.Made.HasMade}
use Rattle.dnssec_policy.specs.{Automatic.Calls.IsAfter, declared.automatic.zone.Calls.Calls}
use Rattle.dnssec_policy.proofs.automatic.zone.Calls.resume.Given as goal

abbrev pub Stand : Calls → List ℕ → List ℕ → List Call → List Entry → Type 0
Stand kept moments name calls entries =
    IsAfter name calls entries kept × HadMemory entries × (moments ≡ moments_of entries)

abbrev pub invariant-loop-moments : goal.invariant-loop-moments
invariant-loop-moments l = HasMade l.script l.lines (Stand l.calls l.moments)

abbrev pub decreases-loop-moments : goal.decreases-loop-moments
decreases-loop-moments l = lines_left l.lines
