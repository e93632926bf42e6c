-- A report is by the notes by which it was said.
use Rattle.dnssec_policy.proofs.Notes.{by-notes, none-ahead}
use Rattle.dnssec_policy.proofs.laws.automatic_reports_are_by_notes.Goals as goal

pub returns : goal.returns
returns c = λ name calls entries network time run auto. (by-notes run auto, none-ahead run auto)
