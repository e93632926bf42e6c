-- What a session answers to C. A closed one keeps nothing.
use Rattle.std.specs.Prelude.{◌≡◌, ◌⊎◌, ℕ, List, [], ◌∷◌, ◌++◌, Option, None, Some, length, is_some}
use Rattle.std.specs.Prelude.{string_bytes}
use Rattle.dnssec_network.specs.declared.fact.NoteFault.TheVariants as note
use Rattle.dnssec_network.specs.declared.fact.NoteFault.TheVariants.{CallNotMade, MomentFalls}
use Rattle.dnssec_network.specs.declared.fact.NoteFault.TheVariants.{PublishedBeforeCall}
use Rattle.dnssec_network.specs.declared.fact.NoteFault.TheVariants.{SeenBeforePublished}
use Rattle.dnssec_network.specs.Text.Due.{IsDueAfter}
use Rattle.dnssec_network.specs.Text.Reading.{HasTaken, IsTakeFault}
use Rattle.dnssec_network.specs.declared.text.fault.LineFault.{LineFault}
use Rattle.dnssec_network.specs.declared.text.fault.LineFault.TheVariants.{Malformed, Refused}
use Rattle.dnssec_network.specs.declared.text.fault.LineFault.TheVariants.{OutOfMemory}
use Rattle.dnssec_run.specs.Moments.{moments_of}
use Rattle.dnssec_run.specs.declared.call.Call.{Call}
use Rattle.dnssec_run.specs.declared.record.Entry.{Entry}
use Rattle.dnssec_record.specs.Session.{Accepts, Closes, GoesOn, Refuses}
use Rattle.dnssec_record.specs.Session.{Stands, StandsAfter}
use Rattle.dnssec_record.specs.declared.session.Session.{Session}
use Rattle.dnssec_status.specs.Status.{IsStatus}
use Rattle.keyset_c.specs.declared.open_session.OpenSession.{OpenSession}

-- it was opened with this line, and has made no call yet
pub record Opens (new : Option OpenSession) (line : List ℕ) : Type 0 where
  pub kept : OpenSession
  pub is : new ≡ Some kept
  pub stands : Stands (line ∷ []) [] kept.session
  pub moments : kept.moments ≡ Some []
  pub notes : kept.notes ≡ None

-- ---- a call

-- these are the moments of the entries, if any are kept
abbrev pub AreOf : Option (List ℕ) → List Entry → Type 0
AreOf None entries = Unit {0}
AreOf (Some moments) entries = moments ≡ moments_of entries

-- that of one more call is kept, if those of the calls before it are
pub record KeepsMoment (before after : Option (List ℕ)) (entries : List Entry) (entry : Entry)
    : Type 0 where
  pub are : AreOf before entries → AreOf after (entries ++ entry ∷ [])
  pub still : is_some after ≡ is_some before

-- what comes of a line, of a session that is open
pub record IfOpen (Comes : OpenSession → List ℕ → OpenSession → Type 0)
    (old : Option OpenSession) (line : List ℕ) (new : Option OpenSession) : Type 0 where
  pub before : OpenSession
  pub is_before : old ≡ Some before
  pub after : OpenSession
  pub is_after : new ≡ Some after
  pub comes : Comes before line after

-- whatever lines it had, and whatever record their run has, it has one line more, and the text that
-- is given when it is asked for is what a run of them answers to it; the notes stay
pub record CallsLine (before : OpenSession) (line : List ℕ) (after : OpenSession) : Type 0 where
  pub goes_on : (lines : List (List ℕ)) (entries : List Entry) → Stands lines entries before.session
      → GoesOn lines entries line after.session (string_bytes after.answer)
  pub moments : (lines : List (List ℕ)) (entries : List Entry)
      (so : Stands lines entries before.session) →
      KeepsMoment before.moments after.moments entries (goes_on lines entries so).entry
  pub notes : after.notes ≡ before.notes

-- so it is, and this text is the answer
pub record Calls (old new : Option OpenSession) (line text : List ℕ) : Type 0 where
  pub called : IfOpen CallsLine old line new
  pub is_said : string_bytes called.after.answer ≡ text

-- ---- a call that is made only if it is accepted

-- whatever lines it had, it has this one too, whose call was accepted; the text that is given when
-- it is asked for is the answer, and the notes stay
pub record AcceptsLine (before : OpenSession) (line : List ℕ) (after : OpenSession) : Type 0 where
  pub accepts : (lines : List (List ℕ)) (entries : List Entry) → Stands lines entries before.session
      → Accepts lines entries line after.session (string_bytes after.answer)
  pub moments : (lines : List (List ℕ)) (entries : List Entry)
      (so : Stands lines entries before.session) →
      KeepsMoment before.moments after.moments entries (accepts lines entries so).goes_on.entry
  pub notes : after.notes ≡ before.notes

-- the call of this line would be refused, and is not made: the text that is given when it is asked
-- for is the answer to it, and all else is as it was
pub record RefusesCall (before : OpenSession) (line : List ℕ) (after : OpenSession) : Type 0 where
  pub session : after.session ≡ before.session
  pub refuses : (lines : List (List ℕ)) (entries : List Entry) → Stands lines entries before.session
      → Refuses lines entries line (string_bytes after.answer)
  pub moments : after.moments ≡ before.moments
  pub notes : after.notes ≡ before.notes

-- ---- questions

-- it is open, and this is so of what it keeps
pub record Keeps (Is : OpenSession → Type 0) (old : Option OpenSession) : Type 0 where
  pub kept : OpenSession
  pub is : old ≡ Some kept
  pub so : Is kept

-- how many calls it has made
abbrev pub HasMade : Option OpenSession → ℕ → Type 0
HasMade None n = n ≡ 0
HasMade (Some kept) n = (lines : List (List ℕ)) (entries : List Entry) →
    Stands lines entries kept.session → n ≡ length entries

-- the text is the last answer that it gave
abbrev pub Repeats : Option OpenSession → List ℕ → Type 0
Repeats old text = Keeps (λ kept. string_bytes kept.answer ≡ text) old

-- the text is the last two lines of the answers to the calls of this session so far
abbrev pub IsClosingOf : Session → List ℕ → Type 0
IsClosingOf session text = (name : List ℕ) (calls : List Call) (entries : List Entry) →
    StandsAfter name calls entries session → Closes entries text

abbrev pub ClosesWith : Option OpenSession → List ℕ → Type 0
ClosesWith old text = Keeps (λ kept. IsClosingOf kept.session text) old

-- the text is the status after the calls of this session so far
abbrev pub IsStatusOf : Session → List ℕ → Type 0
IsStatusOf session text = (name : List ℕ) (calls : List Call) (entries : List Entry) →
    StandsAfter name calls entries session → IsStatus name calls entries text

abbrev pub ShowsStatus : Option OpenSession → List ℕ → Type 0
ShowsStatus old text = Keeps (λ kept. IsStatusOf kept.session text) old

-- ---- notes

-- whatever lines the session had, and whatever lines its notes took: they took this one too, and
-- all else is as it was
pub record NotesLine (before : OpenSession) (line : List ℕ) (after : OpenSession) : Type 0 where
  pub session : after.session ≡ before.session
  pub answer : after.answer ≡ before.answer
  pub moments : after.moments ≡ before.moments
  pub takes : (lines notes : List (List ℕ)) (entries : List Entry) →
      Stands lines entries before.session → AreOf before.moments entries →
      HasTaken (moments_of entries) notes before.notes →
      HasTaken (moments_of entries) (notes ++ line ∷ []) after.notes

-- the status for a line that notes don't take
abbrev pub status_of : LineFault → ℕ
status_of Malformed = 1
status_of (Refused CallNotMade) = 7
status_of (Refused SeenBeforePublished) = 8
status_of (Refused MomentFalls) = 9
status_of (Refused PublishedBeforeCall) = 11
status_of (Refused note.OutOfMemory) = 3
status_of OutOfMemory = 3

-- the notes don't take this line, for the cause that the status says
pub record IsRefused (kept : OpenSession) (line : List ℕ) (status : ℕ) : Type 0 where
  pub fault : LineFault
  pub says : status ≡ status_of fault
  pub is_fault : (name : List ℕ) (calls : List Call) (entries : List Entry) →
      StandsAfter name calls entries kept.session → AreOf kept.moments entries →
      IsTakeFault (moments_of entries) kept.notes line fault

-- a session that forgoes notes, and so keeps no moments, takes no line
abbrev pub RefusesBy : Option (List ℕ) → OpenSession → List ℕ → ℕ → Type 0
RefusesBy None kept line status = status ≡ 14
RefusesBy (Some moments) kept line status = IsRefused kept line status

abbrev pub RefusesLine : OpenSession → List ℕ → ℕ → Type 0
RefusesLine kept = RefusesBy kept.moments kept

abbrev pub RefusesNote : Option OpenSession → List ℕ → ℕ → Type 0
RefusesNote old line status = Keeps (λ kept. RefusesLine kept line status) old

-- the text has the reports that are due at this second, as `answer_due` answers them of the
-- session's lines and of its notes
abbrev pub IsDueOf : ℕ → OpenSession → List ℕ → Type 0
IsDueOf seconds kept text = (lines notes : List (List ℕ)) (entries : List Entry) →
    Stands lines entries kept.session → AreOf kept.moments entries →
    HasTaken (moments_of entries) notes kept.notes → IsDueAfter lines notes entries seconds text

abbrev pub ShowsDue : ℕ → Option OpenSession → List ℕ → Type 0
ShowsDue seconds old text = Keeps (λ kept. IsDueOf seconds kept text) old

-- it has no notes, or forgoes them
abbrev pub HasNoNotes : OpenSession → Type 0
HasNoNotes kept = (kept.moments ≡ None) ⊎ (kept.notes ≡ None)

abbrev pub LacksNotes : Option OpenSession → Type 0
LacksNotes = Keeps HasNoNotes

-- it forgoes them from now on, and all else is as it was
pub record Forgoes (old new : Option OpenSession) : Type 0 where
  pub before : OpenSession
  pub is_before : old ≡ Some before
  pub is_after : new ≡ Some (record before { moments = None; notes = None })

-- the other one stands after the same calls, gives the same answer to the last, and has the same
-- notes and moments
pub record Copies (old copy : Option OpenSession) : Type 0 where
  pub kept : OpenSession
  pub is : old ≡ Some kept
  pub copied : OpenSession
  pub is_copy : copy ≡ Some copied
  pub stands : (name : List ℕ) (calls : List Call) (entries : List Entry) →
      StandsAfter name calls entries kept.session → StandsAfter name calls entries copied.session
  pub is_said : string_bytes copied.answer ≡ string_bytes kept.answer
  pub moments : copied.moments ≡ kept.moments
  pub notes : copied.notes ≡ kept.notes
