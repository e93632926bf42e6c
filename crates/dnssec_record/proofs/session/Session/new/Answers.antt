-- A new zone.
use Rattle.dnssec_record.proofs.session.Session.new.Goals as goal

pub returns : goal.returns
returns c = c.in_ok-zone.ensures
