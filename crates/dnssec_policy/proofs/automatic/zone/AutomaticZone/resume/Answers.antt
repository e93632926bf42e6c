-- The calls of the script, and the facts of the notes.
use Rattle.std.proofs.Common.{List, subst, ℕ}
use Rattle.dnssec_network.specs.{Facts.AreTrue, Notes.NotesParts, Text.Reading.AreNotes}
use Rattle.dnssec_script.specs.Script.{lines_of}
use Rattle.dnssec_policy.proofs.automatic.zone.AutomaticZone.resume.Goals as goal

pub returns : goal.returns
returns c =
    let r = c.in_ok-calls.ensures in
    let noted = c.in_ok-noted.ensures in
    let notes = c.in_ok-noted.noted.notes in
    record {
      resumes = r;
      are_notes = subst (λ (m : List ℕ). AreNotes m (lines_of c.args.notes.now) notes.before
          notes.facts) r.moments noted.notes;
      highest = noted.highest;
      automatic = λ asked old so same. record {
        after = r.after;
        moments = r.moments;
        highest = noted.highest;
        count = so.count;
        automatic = λ network time are. so.automatic network time
            (subst (λ (n : NotesParts). AreTrue n.before n.facts network time) same are);
      };
    }
