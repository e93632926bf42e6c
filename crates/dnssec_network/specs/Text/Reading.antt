-- Which lines are notes, and which line of other texts is the first that is not.
use Rattle.std.specs.Prelude.{◌≡◌, ◌⊎◌, ℕ, ◌+◌, ◌<◌, ◌++◌, List, [], ◌∷◌, map, length, take}
use Rattle.std.specs.Prelude.{Option, None, Some, slice_index_or}
use Rattle.dnssec_run.specs.{Moments.moments_of, declared.record.Entry.Entry}
use Rattle.dnssec_network.specs.{declared.fact.Fact.Fact, Facts.Before}
use Rattle.dnssec_network.specs.Notes.{NotesParts, refusal}
use Rattle.dnssec_network.specs.Text.Lines.{as_before, as_fact, before_says, fact_says}
use Rattle.dnssec_network.specs.declared.text.fault.{LineFault.LineFault, NotesFault.NotesFault}
use Rattle.dnssec_network.specs.declared.text.fault.NotesFault.TheVariants.{Malformed, Refused}
use Rattle.dnssec_network.specs.declared.text.fault.NotesFault.TheVariants.{OutOfMemory}
use Rattle.dnssec_network.specs.declared.text.fault.LineFault.TheVariants as why

-- ---- notes

-- given the times at the calls made, no fact is refused after the old ones and those before it
abbrev pub AreTaken : List ℕ → List Fact → List Fact → Type 0
AreTaken moments old [] = Unit {0}
AreTaken moments old (fact ∷ facts) =
    (refusal moments old fact ≡ None) × AreTaken moments (old ++ fact ∷ []) facts

-- the lines say these facts, one each, and none is refused
pub record AreFacts (moments : List ℕ) (lines : List (List ℕ)) (facts : List Fact) : Type 0 where
  pub said : map as_fact lines ≡ map (λ (fact : Fact). Some (fact_says fact)) facts
  pub taken : AreTaken moments [] facts

-- the lines are notes: the first says the TTLs from before the first call, and each further line a
-- fact
abbrev pub AreNotes : List ℕ → List (List ℕ) → Before → List Fact → Type 0
AreNotes moments [] before facts = ⊥
AreNotes moments (first ∷ lines) before facts =
    (as_before first ≡ Some (before_says before)) × AreFacts moments lines facts

-- ---- other lines

-- why a line is not taken after these facts: it says no fact, or one that is refused
abbrev pub IsFactFault : List ℕ → List Fact → List ℕ → LineFault → Type 0
IsFactFault moments facts line why.Malformed = as_fact line ≡ None
IsFactFault moments facts line (why.Refused cause) = (fact : Fact)
    × (as_fact line ≡ Some (fact_says fact)) × (refusal moments facts fact ≡ Some cause)
IsFactFault moments facts line why.OutOfMemory = (fact : Fact)
    × (as_fact line ≡ Some (fact_says fact)) × (refusal moments facts fact ≡ None)

-- the same of a line with its number
abbrev pub IsLineFault : List ℕ → List Fact → List ℕ → ℕ → NotesFault → Type 0
IsLineFault moments facts line n (Malformed m) =
    (m ≡ n) × IsFactFault moments facts line why.Malformed
IsLineFault moments facts line n (Refused m cause) =
    (m ≡ n) × IsFactFault moments facts line (why.Refused cause)
IsLineFault moments facts line n OutOfMemory = IsFactFault moments facts line why.OutOfMemory

-- the first such line after line 1
pub record IsFactsFault (moments : List ℕ) (lines : List (List ℕ)) (fault : NotesFault)
    : Type 0 where
  pub i : ℕ
  pub within : i < length lines
  pub facts : List Fact
  pub before : AreFacts moments (take i lines) facts
  pub here : IsLineFault moments facts (slice_index_or lines i []) (i + 2) fault

-- the fault of lines: the first isn't one, or a further line is the first with a fault
abbrev pub IsFaultOf : List ℕ → List (List ℕ) → NotesFault → Type 0
IsFaultOf moments [] fault = ⊥
IsFaultOf moments (first ∷ lines) fault =
    ((as_before first ≡ None) × (fault ≡ Malformed 1))
    ⊎ (((before : Before) × (as_before first ≡ Some (before_says before)))
    × IsFactsFault moments lines fault)

-- ---- one more line

-- the notes have one more fact, that of this line
pub record HasLine (moments : List ℕ) (old : NotesParts) (line : List ℕ) (new : NotesParts)
    : Type 0 where
  pub fact : Fact
  pub said : as_fact line ≡ Some (fact_says fact)
  pub taken : refusal moments old.facts fact ≡ None
  pub notes : new ≡ record old { facts = old.facts ++ fact ∷ [] }

-- ---- beside a session

-- after calls at these times these lines are taken: they are the notes, or there is none yet
abbrev pub HasTaken : List ℕ → List (List ℕ) → Option NotesParts → Type 0
HasTaken moments [] noted = noted ≡ None
HasTaken moments (first ∷ lines) noted = (notes : NotesParts) × (noted ≡ Some notes)
    × AreNotes moments (first ∷ lines) notes.before notes.facts

-- lines that are taken stay so after more calls
abbrev pub NotesOutlastCalls : Type 0
NotesOutlastCalls = (entries more : List Entry) (lines : List (List ℕ)) (noted : Option NotesParts)
    → HasTaken (moments_of entries) lines noted
    → HasTaken (moments_of (entries ++ more)) lines noted

-- the notes have this line only
abbrev pub IsFirstLine : List ℕ → Option NotesParts → Type 0
IsFirstLine line noted = (before : Before) × (as_before line ≡ Some (before_says before))
    × (noted ≡ Some (record { before = before; facts = [] }))

-- why a line can't be the first; memory is missing only for one that could be
abbrev pub IsFirstFault : List ℕ → LineFault → Type 0
IsFirstFault line why.Malformed = as_before line ≡ None
IsFirstFault line (why.Refused cause) = ⊥
IsFirstFault line why.OutOfMemory =
    (before : Before) × (as_before line ≡ Some (before_says before))

-- why a line is not taken
abbrev pub IsTakeFault : List ℕ → Option NotesParts → List ℕ → LineFault → Type 0
IsTakeFault moments None line fault = IsFirstFault line fault
IsTakeFault moments (Some notes) line fault = IsFactFault moments notes.facts line fault
