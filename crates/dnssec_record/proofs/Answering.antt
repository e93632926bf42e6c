-- What is known of the input carries over to the answer to it.
use Rattle.std.proofs.Common.{◌≡◌, ◌≢◌, ℕ, List, Option, Some, None, IfSome, ◌∙◌, subst}
use Rattle.dnssec_record.specs.declared.fault.ScriptFault.TheVariants.{Malformed, Device}
use Rattle.dnssec_record.specs.declared.fault.ScriptFault.TheVariants.{OutOfMemory}
use Rattle.dnssec_record.specs.{Answer.AnswerFault, declared.fault.ScriptFault.ScriptFault}
use Rattle.dnssec_record.specs.Fault.{fault_of_reading}
use Rattle.dnssec_script.specs.Inner.Reading.{IsReadFault}
use Rattle.dnssec_script.specs.Script.{IsScript, lines_of}
use Rattle.dnssec_script.specs.declared.lines.ReadFault.{ReadFault}
use Rattle.dnssec_script.specs.declared.lines.ReadFault.TheVariants as read
use Rattle.dnssec_script.proofs.Judging.{never_malformed}
use Rattle.dnssec_run.specs.declared.call.Call.{Call}

-- what holds of the bytes that were read holds of those that the input had left
pub of_input : (left : Option (List ℕ)) (P : List ℕ → Type 0) (shown read : List ℕ)
    → IfSome left (λ text. read ≡ text) → shown ≡ read → P shown → IfSome left P
of_input None P shown read whole same holds = tt
of_input (Some text) P shown read whole same holds = subst P (same ∙ whole) holds

-- a script that isn't read on has this fault
pub answer_fault : (script : List ℕ) (fault : ReadFault) → IsReadFault script fault
    → AnswerFault script (fault_of_reading fault)
answer_fault script (read.Malformed n) is = is
answer_fault script read.OutOfMemory is = is

-- a script has no such fault
pub never_fault : (script : List ℕ) (fault : ScriptFault) → AnswerFault script fault
    → (name : List ℕ) (calls : List Call) → IsScript script name calls
    → (n : ℕ) → fault ≢ Malformed n
never_fault script (Malformed m) first name calls is n same =
    never_malformed (lines_of script) name calls m is first
never_fault script Device first name calls is n same = absurd first
never_fault script OutOfMemory first name calls is n same = cc
