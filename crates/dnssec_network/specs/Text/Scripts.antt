-- Several scripts with their notes in one text, and the answers to all of their questions.
use Rattle.std.specs.Prelude.{◌≡◌, ◌⊎◌, ◌==◌, ◌&&◌, ◌||◌, ℕ, ◌<◌, ◌++◌, Bool, true, false, not}
use Rattle.std.specs.Prelude.{List, [], ◌∷◌, length, take, codes, if◌then◌else◌, slice_index_or}
use Rattle.std.specs.List.{AllZip, flat_map, join_by}
use Rattle.dnssec_record.specs.{Answer.AnswerFault, Session.ResumesWith}
use Rattle.dnssec_record.specs.declared.session.Session.{Session}
use Rattle.dnssec_script.specs.Script.{lines_of}
use Rattle.dnssec_network.specs.Text.Questions.{AreAnswers, IsAnswersFault}
use Rattle.dnssec_network.specs.declared.text.fault.{DueFault.DueFault, NotesFault.NotesFault}
use Rattle.dnssec_network.specs.declared.text.fault.NotesFault.TheVariants.{Malformed, Refused}
use Rattle.dnssec_network.specs.declared.text.fault.NotesFault.TheVariants.{OutOfMemory}
use Rattle.dnssec_network.specs.declared.text.fault.DueFault.TheVariants as due
use Rattle.dnssec_network.specs.declared.text.scripts.ScriptWithNotes as code

-- ---- the scripts of a text

-- the parts that empty lines end, and the last, given whether a line begins here, and what the
-- first part has so far. A line feed at which a line begins is an empty line
abbrev pub parts_after : Bool → List ℕ → List ℕ → List (List ℕ)
parts_after begins part [] = part ∷ []
parts_after begins part (byte ∷ text) =
    if begins && (byte == 10) then part ∷ parts_after true [] text
    else parts_after (byte == 10) (part ++ byte ∷ []) text

abbrev pub parts_of : List ℕ → List (List ℕ)
parts_of text = parts_after true [] text

-- a script, and the notes beside it
pub record ScriptWithNotes : Type 0 where
  pub script : List ℕ
  pub notes : List ℕ

-- the parts by twos, a script and its notes. The last part may be a script without notes; an empty
-- one is none, unless it is the first script
abbrev pub scripts_after : Bool → List (List ℕ) → List ScriptWithNotes
scripts_after is_first [] = []
scripts_after is_first (script ∷ []) =
    let last : ScriptWithNotes = record { script = script; notes = [] } in
    if is_first || not (length script == 0) then last ∷ [] else []
scripts_after is_first (script ∷ notes ∷ parts) =
    record { script = script; notes = notes } ∷ scripts_after false parts

abbrev pub scripts_among : List (List ℕ) → List ScriptWithNotes
scripts_among parts = scripts_after true parts

abbrev pub scripts_of : List ℕ → List ScriptWithNotes
scripts_of text = scripts_among (parts_of text)

-- the same in code
abbrev pub as_noted : code.ScriptWithNotes → ScriptWithNotes
as_noted noted = record { script = noted.script.now; notes = noted.notes.now }

-- ---- their answers

-- the texts answer the questions among the notes of a script, and there is one
abbrev pub AnswersOne : ScriptWithNotes → List (List ℕ) → Type 0
AnswersOne noted texts = AreAnswers noted.script noted.notes texts × (0 < length texts)

-- the texts answer the questions of each script, first those of the first
pub record AnswersEach (scripts : List ScriptWithNotes) (texts : List (List ℕ)) : Type 0 where
  pub answers : List (List (List ℕ))
  pub each : AllZip AnswersOne scripts answers
  pub all : texts ≡ flat_map (λ of_one. of_one) answers

-- this is said to a text: the answers to the questions of its scripts, with an empty line between
-- each two
pub record AnswersText (text said : List ℕ) : Type 0 where
  pub texts : List (List ℕ)
  pub answers : AnswersEach (scripts_of text) texts
  pub joined : said ≡ join_by (λ answer. answer) (codes "\n") texts

-- ---- faults

-- why notes are not answered after the calls of a session, at these moments; the list of their
-- lines takes memory before the first is read
abbrev pub IsUnanswered : Session → List ℕ → List ℕ → NotesFault → Type 0
IsUnanswered session moments notes (Malformed n) =
    IsAnswersFault session moments (lines_of notes) (Malformed n)
IsUnanswered session moments notes (Refused n cause) =
    IsAnswersFault session moments (lines_of notes) (Refused n cause)
IsUnanswered session moments notes OutOfMemory = Unit {0}

-- why a script and its notes are not answered: it is no script, or its notes are not answered after
-- its calls
abbrev pub IsFaultBeside : List ℕ → List ℕ → DueFault → Type 0
IsFaultBeside script notes (due.Script fault) = AnswerFault script fault
IsFaultBeside script notes (due.Notes fault) =
    (session : Session) × (moments : List ℕ) × ResumesWith script session moments
    × IsUnanswered session moments notes fault

-- the fault of one of the scripts
abbrev pub IsFaultOfOne : ScriptWithNotes → DueFault → Type 0
IsFaultOfOne noted fault = IsFaultBeside noted.script noted.notes fault

-- what stands at the place of no script
abbrev pub no_script : ScriptWithNotes
no_script = record { script = []; notes = [] }

-- the scripts before one are answered, and this is the fault of that one
pub record IsFirstUnanswered (scripts : List ScriptWithNotes) (fault : DueFault) : Type 0 where
  pub i : ℕ
  pub within : i < length scripts
  pub texts : List (List ℕ)
  pub before : AnswersEach (take i scripts) texts
  pub here : IsFaultOfOne (slice_index_or scripts i no_script) fault

-- it is the first that is not answered, or memory has run out
abbrev pub IsFaultAmong : List ScriptWithNotes → DueFault → Type 0
IsFaultAmong scripts fault =
    IsFirstUnanswered scripts fault ⊎ (fault ≡ due.Notes OutOfMemory)

abbrev pub IsFaultOfAll : List ℕ → DueFault → Type 0
IsFaultOfAll text fault = IsFaultAmong (scripts_of text) fault
