-- Nothing is published yet.
use Rattle.dnssec_run.specs.Changes.{add_of}
use Rattle.dnssec_record.proofs.Running.{none_follows}
use Rattle.dnssec_record.proofs.zone.ZoneState.new.Goals as goal

pub returns : goal.returns
returns c =
    none_follows _ _ c.new-recorder.ensures (c.in-Ok.ensures.ok add_of)
    c.new-courses.ensures.listed c.new-courses.ensures.ended
