-- The answer to a script.
use Rattle.std.specs.Prelude.{◌≡◌, ◌⊎◌, ℕ, List, ◌++◌, codes, length, Option, IfSome}
use Rattle.std.specs.Io.KnownBytes.{Appends, Keeps}
use Rattle.dnssec_keyset.specs.KeySet.{KeySetParts}
use Rattle.dnssec_run.specs.declared.call.Call.{Call}
use Rattle.dnssec_run.specs.declared.record.Entry.{Entry}
use Rattle.dnssec_run.specs.Plain.{IsPlain, StaysSafe}
use Rattle.dnssec_run.specs.Record.{IsRun, world_at}
use Rattle.dnssec_judge.specs.declared.verdict.Broken.{Broken}
use Rattle.dnssec_judge.specs.Verdict.{IsVerdict}
use Rattle.dnssec_record.specs.Output.{output}
use Rattle.dnssec_script.specs.Script.{BeginsWithZone, IsScript, IsFirstMalformed}
use Rattle.dnssec_record.specs.declared.fault.ScriptFault.{ScriptFault}
use Rattle.dnssec_record.specs.declared.fault.ScriptFault.TheVariants.{Malformed, Device}
use Rattle.dnssec_record.specs.declared.fault.ScriptFault.TheVariants.{OutOfMemory}

-- a run of the calls of this script leaves this key set and this record
pub record IsRunOf (script : List ℕ) (set : KeySetParts) (entries : List Entry) : Type 0 where
  pub name : List ℕ
  pub calls : List Call
  pub is_script : IsScript script name calls
  pub is_run : IsRun name calls entries
  pub is_set : set ≡ (world_at name calls entries (length entries)).set

-- the text is the output of a run of the calls of this script, with the verdict on its record
pub record IsAnswerOf (script text : List ℕ) : Type 0 where
  pub name : List ℕ
  pub calls : List Call
  pub entries : List Entry
  pub verdict : Option Broken
  pub is_script : IsScript script name calls
  pub is_run : IsRun name calls entries
  pub is_verdict : IsVerdict entries verdict
  pub is_output : text ≡ output entries verdict

-- a device took, after what it had taken before, a text that answers the script
abbrev pub TakesAnswer : List ℕ → Option (List ℕ) → Option (List ℕ) → Type 0
TakesAnswer script old new = (text : List ℕ) × IsAnswerOf script text × Appends old new text

-- every run whose output the device took stays safe, if its list is plain
abbrev pub IsSafeAnswer : List ℕ → Option (List ℕ) → Option (List ℕ) → Type 0
IsSafeAnswer script old new =
    (text : List ℕ) (a : IsAnswerOf script text) → Appends old new text →
    StaysSafe a.name a.calls a.entries

-- and if its list is plain, the last line that was taken says so
abbrev pub EndsSafe : List ℕ → Option (List ℕ) → Option (List ℕ) → Type 0
EndsSafe script old new =
    (text : List ℕ) (a : IsAnswerOf script text) → Appends old new text →
    IsPlain a.name a.calls a.entries → (front : List ℕ) × (text ≡ front ++ codes "\nchain safe\n")

-- a device took a beginning of such a text
abbrev pub TakesBeginning : List ℕ → Option (List ℕ) → Option (List ℕ) → Type 0
TakesBeginning script old new =
    (text : List ℕ) × (rest : List ℕ) × IsAnswerOf script (text ++ rest) × Appends old new text

-- it took nothing, or a beginning of an answer to the script, if that is known
abbrev pub TakesAtMost : Option (List ℕ) → Option (List ℕ) → Option (List ℕ) → Type 0
TakesAtMost left old new =
    Keeps old new ⊎ IfSome left (λ script. TakesBeginning script old new)

-- the fault of these bytes, before anything is written: memory isn't missing if the first line
-- names no zone
abbrev pub AnswerFault : List ℕ → ScriptFault → Type 0
AnswerFault script (Malformed n) = IsFirstMalformed script n
AnswerFault script Device = ⊥
AnswerFault script OutOfMemory = BeginsWithZone script
