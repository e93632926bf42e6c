use Rattle.dnssec_run.specs.Changes.{add_of}
use Rattle.dnssec_record.proofs.session.Session.latest.Goals as goal

pub returns : goal.returns
returns c name calls entries stands = c.latest.ensures add_of entries stands.follows.knows
