-- The zone makes the call.
use Rattle.dnssec_record.proofs.Sessions.{advances}
use Rattle.dnssec_record.proofs.session.Session.make.Goals as goal

pub returns : goal.returns
returns c name calls entries so =
    advances _ (c.in_ok-reply.ensures name calls entries so) c.fit.ensures
