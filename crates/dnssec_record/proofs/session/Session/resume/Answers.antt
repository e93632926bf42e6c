-- The session without the moments.
use Rattle.dnssec_record.proofs.session.Session.resume.Goals as goal

pub returns-clause-ok : goal.returns-clause-ok
returns-clause-ok c = c.in_ok-session.ensures.ok.resumes
