-- The reports that are due, as lines.
use Rattle.std.specs.Prelude.{◌≡◌, ℕ, ◌+◌, ◌*◌, ◌/◌, ◌++◌, suc, Bool, true, false, List, []}
use Rattle.std.specs.Prelude.{length, codes, decimal, Option, None, Some, Result, Ok, Err}
use Rattle.std.specs.List.{flat_map}
use Rattle.dnssec_key.specs.{declared.roll.RollType.RollType, RollTable.is_second, Texts.roll_name}
use Rattle.dnssec_zone.specs.Rolls.{Rolls, all_rolls, phase_of}
use Rattle.dnssec_run.specs.declared.{call.Call.Call, record.Entry.Entry}
use Rattle.dnssec_run.specs.{Moments.moments_of, declared.running.LastStep.LastStep}
use Rattle.dnssec_run.specs.{Record.IsRun, Record.world_at, Steps.last_step}
use Rattle.dnssec_network.specs.declared.due.{DueReport.DueReport, NotYet.NotYet}
use Rattle.dnssec_network.specs.declared.due.NotYet.TheVariants.{WaitsFor, WaitsUntil}
use Rattle.dnssec_network.specs.{declared.fact.Fact.Fact, Facts.Before, Notes.NotesParts}
use Rattle.dnssec_network.specs.Reports.{due_report}
use Rattle.dnssec_script.specs.Script.{AreScript, lines_of}
use Rattle.dnssec_record.specs.{Session.HadMemory, Session.Stands, declared.session.Session.Session}
use Rattle.dnssec_network.specs.Text.{Lines.kind_name, Reading.AreNotes, Reading.HasTaken}

-- the word of a report
abbrev pub report_word : Bool → List ℕ
report_word false = codes "report1"
report_word true = codes "report2"

-- a roll's report, as a script begins its line
abbrev pub report_of : Bool → RollType → List ℕ
report_of second roll = report_word second ++ codes " " ++ roll_name roll

-- the first second that isn't before a moment
abbrev pub first_second : ℕ → ℕ
first_second moment = (moment + 999_999_999) / 1_000_000_000

-- what a report waits for: sets of a kind, or a second
abbrev pub why_text : NotYet → List ℕ
why_text (WaitsFor kind) = codes " waits for " ++ kind_name kind
why_text (WaitsUntil moment) = codes " waits until " ++ decimal (first_second moment)

-- the line that makes the report at this second, or says what it waits for
abbrev pub ttl_line : Bool → RollType → Result ℕ NotYet → ℕ → List ℕ
ttl_line second roll (Ok ttl) seconds =
    report_of second roll ++ codes " " ++ decimal ttl ++ codes " " ++ decimal seconds ++ codes "\n"
ttl_line second roll (Err why) seconds =
    codes "not yet: " ++ report_of second roll ++ why_text why ++ codes "\n"

-- no line for a roll that waits for no report
abbrev pub due_line : Option DueReport → ℕ → List ℕ
due_line None seconds = []
due_line (Some report) seconds =
    ttl_line (is_second report.half) report.roll report.ttl seconds

-- the line of a roll in its phase, with its last step
abbrev pub line_for : Rolls → (RollType → Option LastStep) → List ℕ → Before → List Fact → ℕ
    → RollType → List ℕ
line_for rolls step moments before facts seconds roll = due_line
    (due_report before facts moments (phase_of rolls roll) (step roll) roll
    (seconds * 1_000_000_000)) seconds

-- the lines of all rolls in progress
abbrev pub due_text : Rolls → (RollType → Option LastStep) → List ℕ → Before → List Fact → ℕ
    → List ℕ
due_text rolls step moments before facts seconds =
    flat_map (line_for rolls step moments before facts seconds) all_rolls

-- ---- of a script

-- the text has the lines of the reports that are due at this second, after a run of the script that
-- these lines are, with this record, by the notes that the others are
pub record IsDueAfter (lines notes : List (List ℕ)) (entries : List Entry) (seconds : ℕ)
    (text : List ℕ) : Type 0 where
  pub name : List ℕ
  pub calls : List Call
  pub before : Before
  pub facts : List Fact
  pub is_script : AreScript lines name calls
  pub is_run : IsRun name calls entries
  pub are_notes : AreNotes (moments_of entries) notes before facts
  pub is_text : text ≡ due_text (world_at name calls entries (length entries)).set.rolls
      (λ roll. last_step entries roll (suc (length entries))) (moments_of entries) before facts
      seconds

-- a question: the second that it asks about, and the lines of the notes above it
pub record Question : Type 0 where
  pub notes : List (List ℕ)
  pub seconds : ℕ

-- the text answers a question beside a script, and each of the calls had memory
pub record IsAnswerTo (script : List ℕ) (question : Question) (text : List ℕ) : Type 0 where
  pub entries : List Entry
  pub is_due : IsDueAfter (lines_of script) question.notes entries question.seconds text
  pub had_memory : HadMemory entries

-- the same of notes that are a text
abbrev pub IsDueAnswer : List ℕ → List ℕ → ℕ → List ℕ → Type 0
IsDueAnswer script notes seconds text =
    IsAnswerTo script (record { notes = lines_of notes; seconds = seconds }) text

-- ---- of a session with its notes

-- whatever lines the session had, if these are the moments of its calls, and whatever lines its
-- notes took: the text is that of a run of the ones by the others; there is none as long as there
-- are no notes
abbrev pub AnswersDue : Session → List ℕ → Option NotesParts → ℕ → Option (List ℕ) → Type 0
AnswersDue session moments noted seconds None = noted ≡ None
AnswersDue session moments noted seconds (Some text) =
    (lines notes : List (List ℕ)) (entries : List Entry) → Stands lines entries session →
    moments ≡ moments_of entries → HasTaken (moments_of entries) notes noted →
    IsDueAfter lines notes entries seconds text
