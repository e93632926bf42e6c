-- The notes have no fact yet.
use Rattle.std.proofs.Common.{subst, sym}
use Rattle.dnssec_network.specs.Notes.{NotesParts}
use Rattle.dnssec_policy.specs.Text.Lint.{AreHighest}
use Rattle.dnssec_policy.proofs.automatic.zone_notes.ZoneNotes.new.Goals as goal

pub returns-clause-highest : goal.returns-clause-highest
returns-clause-highest c =
    subst (λ (n : NotesParts). AreHighest n.before n.facts c.of_before.result) (sym c.new.ensures)
    c.of_before.ensures
