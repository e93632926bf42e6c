-- The lines that are due after the calls of a session.
use Rattle.std.proofs.Common.{◌≡◌, ◌∙◌, ap, List, subst, sym, ℕ}
use Rattle.dnssec_keyset.specs.KeySet.{KeySetParts}
use Rattle.dnssec_network.specs.Notes.{NotesParts}
use Rattle.dnssec_record.specs.{Session.Stands, declared.session.Session.Session}
use Rattle.dnssec_run.specs.{Moments.moments_of, Record.world_at, Steps.AreStepsOf, Steps.step_of}
use Rattle.dnssec_run.specs.declared.{record.Entry.Entry, running.Steps.Steps}
use Rattle.dnssec_network.specs.Text.{Due.IsDueAfter, Due.due_text, Reading.AreNotes}

pub is_due_after : (lines notes : List (List ℕ)) (entries : List Entry) (session : Session)
    (keyset : KeySetParts) (steps : Steps) (moments : List ℕ) (noted : NotesParts) (seconds : ℕ)
    (text : List ℕ)
    → (so : Stands lines entries session) → keyset ≡ session.zone.recorder.keyset
    → AreStepsOf entries steps → moments ≡ moments_of entries
    → AreNotes moments notes noted.before noted.facts
    → text ≡ due_text keyset.rolls (step_of steps) moments noted.before noted.facts seconds
    → IsDueAfter lines notes entries seconds text
is_due_after lines notes entries session keyset steps moments noted seconds text so same last at
    are is =
    let after = so.stands in
    let set = same ∙ after.follows.records.agrees.same
    ∙ ap (λ k. (world_at so.name so.calls entries k).set) (sym after.follows.records.run.count) in
    record {
      name = so.name;
      calls = so.calls;
      is_script = so.is_script;
      is_run = after.follows.records.run;
      are_notes = subst (λ m. AreNotes m notes noted.before noted.facts) at are;
      before = noted.before;
      facts = noted.facts;
      is_text = is ∙ (λ i. due_text (set i).rolls (λ roll. last roll i) (at i) noted.before
          noted.facts seconds);
    }
