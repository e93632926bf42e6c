-- The copy of the zone knows what the zone knew.
use Rattle.dnssec_record.proofs.session.Session.try_clone.Goals as goal

pub returns : goal.returns
returns c name calls entries so = c.in_ok-zone.ensures name calls entries so
