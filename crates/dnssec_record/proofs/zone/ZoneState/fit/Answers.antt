-- The judge knows what it knew, and the recorder has recorded the same.
use Rattle.dnssec_run.specs.Changes.{add_of}
use Rattle.dnssec_record.proofs.zone.ZoneState.fit.Goals as goal

pub returns-then-len-le-FITTED_KEYS : goal.returns-then-len-le-FITTED_KEYS
returns-then-len-le-FITTED_KEYS c name calls entries so = record {
  follows = record {
    records = c.fit-then-len-le-FITTED_KEYS.ensures name calls entries so.follows.records;
    knows = c.fit.ensures add_of entries so.follows.knows;
  };
  listed = so.listed;
  ended = so.ended;
}
