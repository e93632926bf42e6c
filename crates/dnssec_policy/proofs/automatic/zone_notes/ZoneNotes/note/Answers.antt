-- The fact counts for the highest TTLs.
use Rattle.std.proofs.Common.{subst, sym}
use Rattle.dnssec_network.specs.Notes.{NotesParts}
use Rattle.dnssec_policy.specs.Text.Lint.{AreHighest}
use Rattle.dnssec_policy.proofs.automatic.zone_notes.ZoneNotes.note.Goals as goal

pub returns-clause-ok : goal.returns-clause-ok
returns-clause-ok c =
    let old = c.args.self.now.notes in
    let more = c.in_ok-note.ensures.noted in
    record {
      notes = more;
      highest = λ so.
          subst (λ (n : NotesParts). AreHighest n.before n.facts c.after-self.result) (sym more)
          (c.after-self.ensures old.before old.facts so);
    }
