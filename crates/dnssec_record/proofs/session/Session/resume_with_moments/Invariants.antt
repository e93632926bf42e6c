-- The session stands after the calls of the lines so far, each had memory, and their moments are
-- kept.
use Rattle.std.proofs.Common.{◌≡◌}
use Rattle.dnssec_run.specs.Moments.{moments_of}
use Rattle.dnssec_script.specs.Inner.Reading.{lines_left}
use Rattle.dnssec_record.{specs.Session.HadMemory, specs.Session.StandsAfter, proofs.Made.HasMade}
use Rattle.dnssec_record.proofs.session.Session.resume_with_moments.Given as goal

abbrev pub invariant-loop-moments : goal.invariant-loop-moments
invariant-loop-moments l =
    HasMade l.script l.lines (λ name calls entries. StandsAfter name calls entries l.session
    × HadMemory entries × (l.moments ≡ moments_of entries))

abbrev pub decreases-loop-moments : goal.decreases-loop-moments
decreases-loop-moments l = lines_left l.lines
