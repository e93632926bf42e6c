-- How far a script is read: its lines one after the other.
use Rattle.std.specs.Prelude.{◌≡◌, ℕ, suc, ◌==◌, List, [], ◌∷◌, ◌++◌, length, Option, Some, None}
use Rattle.std.specs.{List.slice_split, Option.option_map_or}
use denote.Bor.{Bor}
use Rattle.dnssec_run.specs.declared.call.Call.{Call}
use Rattle.dnssec_script.specs.Script.{AreLinesOf, BeginsWithZone, IsFirstMalformed, IsScript}
use Rattle.dnssec_script.specs.Script.{IsZoneLine, call_says, lines_of}
use Rattle.dnssec_script.specs.Inner.Statement.{statement_says}
use Rattle.dnssec_script.specs.declared.lines.Lines.{Lines}
use Rattle.dnssec_script.specs.declared.lines.ReadFault.{ReadFault}
use Rattle.dnssec_script.specs.declared.lines.ReadFault.TheVariants.{Malformed, OutOfMemory}
use Rattle.dnssec_script.specs.declared.statement.Statement.{Statement}

-- the parts that a byte divides what is left into; none if nothing is left
abbrev pub parts_left : ℕ → Option (Bor (List ℕ)) → List (List ℕ)
parts_left byte rest = option_map_or (λ text. slice_split (λ b. b == byte) text.now) rest []

-- how many lines are left
abbrev pub lines_left : Lines → ℕ
lines_left lines = length (parts_left 10 lines.rest)

-- the first line of the script names the zone, the lines after it that were read make these calls,
-- and the others are left
pub record HasRead (script name : List ℕ) (calls : List Call) (lines : Lines) : Type 0 where
  pub zone : List ℕ
  pub taken : List (List ℕ)
  pub are_all : lines_of script ≡ zone ∷ (taken ++ parts_left 10 lines.rest)
  pub names_zone : IsZoneLine zone name
  pub make : AreLinesOf taken calls
  pub count : lines.count ≡ suc (length taken)

-- the next line says what a call says, and is read; or these were all calls of the script
abbrev pub ReadsOn : List ℕ → List ℕ → List Call → Lines → Option Statement → Type 0
ReadsOn script name calls left (Some statement) =
    (call : Call) → call_says call ≡ statement_says statement →
    HasRead script name (calls ++ call ∷ []) left
ReadsOn script name calls left None = IsScript script name calls

-- why the script isn't read on: memory isn't missing if the first line names no zone
abbrev pub IsReadFault : List ℕ → ReadFault → Type 0
IsReadFault script (Malformed n) = IsFirstMalformed script n
IsReadFault script OutOfMemory = BeginsWithZone script
