-- The tag goes out of the index.
use Rattle.dnssec_zone.proofs.derived.Derived.delete.Goals as goal

pub returns-clause-tags : goal.returns-clause-tags
returns-clause-tags c = c.note.ensures
