-- The copies know what the three knew.
use Rattle.std.proofs.Common.{◌∙◌}
use Rattle.dnssec_run.specs.Changes.{add_of}
use Rattle.dnssec_record.proofs.zone.ZoneState.try_clone.Goals as goal

pub returns : goal.returns
returns c name calls entries so = record {
  follows = record {
    records = c.in-Ok.ensures.records name calls entries so.follows.records;
    knows = (c.in-Ok-try_clone.ensures.same add_of entries).0 so.follows.knows;
  };
  listed = c.in_ok-courses.ensures.listed ∙ so.listed;
  ended = c.in_ok-courses.ensures.ended ∙ so.ended;
}
