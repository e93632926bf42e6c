-- Questions among the lines of notes, and their answers.
use Rattle.std.specs.Prelude.{◌≡◌, ◌⊎◌, ℕ, ◌+◌, ◌<◌, ◌++◌, List, [], ◌∷◌, length, take, codes}
use Rattle.std.specs.Prelude.{Option, None, Some, IsSome, option_and_then, is_none}
use Rattle.std.specs.Prelude.{if◌then◌else◌, slice_index_or}
use Rattle.std.specs.{List.AllZip, List.filter, Str.bytes_eq}
use Rattle.dnssec_run.specs.{Moments.moments_of, declared.record.Entry.Entry}
use Rattle.dnssec_network.specs.Notes.{NotesParts}
use Rattle.dnssec_script.specs.Script.{Form, Value, Number, as_number, fields_of, first_field}
use Rattle.dnssec_script.specs.Script.{lines_of, values_of}
use Rattle.dnssec_record.specs.{Session.Stands, declared.session.Session.Session}
use Rattle.dnssec_network.specs.Text.Due.{IsAnswerTo, IsDueAfter, Question}
use Rattle.dnssec_network.specs.Text.Reading.{HasTaken, IsTakeFault}
use Rattle.dnssec_network.specs.declared.text.fault.{LineFault.LineFault, NotesFault.NotesFault}
use Rattle.dnssec_network.specs.declared.text.fault.LineFault.TheVariants as why
use Rattle.dnssec_network.specs.declared.text.fault.NotesFault.TheVariants as notes

-- ---- which lines are questions

-- a second since 1970
abbrev pub question_forms : List Form
question_forms = as_number 18446744073709551615 ∷ []

-- what a question of this word says: the word, and the second that it asks about
unfoldable pub asked_by : List ℕ → List ℕ → Option (List Value)
asked_by word line =
    option_and_then (λ x. if bytes_eq x.0 word then values_of question_forms x.1 else None)
    (first_field (fields_of line))

-- what a question among notes says
abbrev pub as_question : List ℕ → Option (List Value)
as_question = asked_by (codes "due")

-- the lines that are no questions
abbrev pub notes_among : List (List ℕ) → List (List ℕ)
notes_among = filter (λ line. is_none (as_question line))

-- the question that a line says, with the notes among the lines above it
abbrev pub question_at : List (List ℕ) → Option (List Value) → List Question
question_at above (Some (Number second ∷ [])) =
    record { notes = notes_among above; seconds = second } ∷ []
question_at above _ = []

-- the questions among these lines, after those above them
abbrev pub questions_after : List (List ℕ) → List (List ℕ) → List Question
questions_after above [] = []
questions_after above (line ∷ lines) =
    question_at above (as_question line) ++ questions_after (above ++ line ∷ []) lines

abbrev pub questions_among : List (List ℕ) → List Question
questions_among lines = questions_after [] lines

-- ---- their answers

-- beside a script with this record the lines have these notes, and the texts answer the questions
-- among them, one each, in their order
pub record HasAnswered (script : List (List ℕ)) (entries : List Entry) (lines : List (List ℕ))
    (noted : Option NotesParts) (texts : List (List ℕ)) : Type 0 where
  pub taken : HasTaken (moments_of entries) (notes_among lines) noted
  pub answers : AllZip (λ question text.
      IsDueAfter script question.notes entries question.seconds text) (questions_among lines) texts

-- whatever lines the session had, if these are the moments of its calls
abbrev pub AnswersAll : Session → List ℕ → List (List ℕ) → List (List ℕ) → Type 0
AnswersAll session moments lines texts = (script : List (List ℕ)) (entries : List Entry) →
    Stands script entries session → moments ≡ moments_of entries →
    (noted : Option NotesParts) × HasAnswered script entries lines noted texts

-- the texts answer the questions among the lines of these notes, one each, in their order
abbrev pub AreAnswers : List ℕ → List ℕ → List (List ℕ) → Type 0
AreAnswers script notes texts =
    AllZip (IsAnswerTo script) (questions_among (lines_of notes)) texts

-- ---- one more line

-- what comes of a line after these notes: an answer if it is a question, and else it is taken
abbrev pub ComesOf : List (List ℕ) → List Entry → List (List ℕ) → List ℕ → Option (List ℕ)
    → Option NotesParts → Type 0
ComesOf script entries notes line None noted =
    (as_question line ≡ None) × HasTaken (moments_of entries) (notes ++ line ∷ []) noted
ComesOf script entries notes line (Some text) noted =
    (seconds : ℕ) × (as_question line ≡ Some (Number seconds ∷ []))
    × HasTaken (moments_of entries) notes noted
    × IsDueAfter script notes entries seconds text

-- ---- faults

-- why a question is not answered: there are no notes yet; memory is missing only if there are
abbrev pub IsQuestionFault : Option NotesParts → LineFault → Type 0
IsQuestionFault noted why.Malformed = noted ≡ None
IsQuestionFault noted (why.Refused cause) = ⊥
IsQuestionFault noted why.OutOfMemory = IsSome noted

-- why a line is neither taken nor answered, given what it asks
abbrev pub IsAnswerFault : List ℕ → Option NotesParts → Option (List Value) → List ℕ → LineFault
    → Type 0
IsAnswerFault moments noted None line fault = IsTakeFault moments noted line fault
IsAnswerFault moments noted (Some said) line fault = IsQuestionFault noted fault

-- the same with the number of the line
abbrev pub fault_at : LineFault → ℕ → NotesFault
fault_at why.Malformed n = notes.Malformed n
fault_at (why.Refused cause) n = notes.Refused n cause
fault_at why.OutOfMemory n = notes.OutOfMemory

-- the lines above one are taken and answered, and it is not
pub record IsFirstFaulty (script : List (List ℕ)) (entries : List Entry) (lines : List (List ℕ))
    (fault : NotesFault) : Type 0 where
  pub i : ℕ
  pub within : i < length lines
  pub noted : Option NotesParts
  pub texts : List (List ℕ)
  pub above : HasAnswered script entries (take i lines) noted texts
  pub why : LineFault
  pub here : IsAnswerFault (moments_of entries) noted (as_question (slice_index_or lines i []))
      (slice_index_or lines i []) why
  pub is : fault ≡ fault_at why (i + 1)

-- no line is a question, so one is missing after the last
pub record IsUnasked (lines : List (List ℕ)) (fault : NotesFault) : Type 0 where
  pub none : questions_among lines ≡ []
  pub is : fault ≡ notes.Malformed (length lines + 1)

-- why lines are not answered
abbrev pub IsAnswersFault : Session → List ℕ → List (List ℕ) → NotesFault → Type 0
IsAnswersFault session moments lines fault = (script : List (List ℕ)) (entries : List Entry) →
    Stands script entries session → moments ≡ moments_of entries →
    IsFirstFaulty script entries lines fault ⊎ IsUnasked lines fault
