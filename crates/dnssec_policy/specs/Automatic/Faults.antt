-- The texts of faults, and which of them are lack of memory.
use Rattle.std.specs.Prelude.{ℕ, ◌++◌, Bool, true, false, List, codes}
use Rattle.dnssec_network.specs.{Text.Faults.due_fault_text, Texts.memory_text}
use Rattle.dnssec_network.specs.declared.text.fault.DueFault.TheVariants.{Script, Notes}
use Rattle.dnssec_network.specs.declared.text.fault.NotesFault.TheVariants as notes
use Rattle.dnssec_record.specs.declared.fault.ScriptFault.TheVariants as script
use Rattle.dnssec_policy.specs.declared.text.fault.PolicyFault.TheVariants as policy
use Rattle.dnssec_policy.specs.Text.Faults.{fault_text, too_short_text}
use Rattle.dnssec_policy.specs.declared.automatic.fault.NextFault.{NextFault}
use Rattle.dnssec_policy.specs.declared.automatic.fault.NextFault.TheVariants.{OutOfMemory, Policy}
use Rattle.dnssec_policy.specs.declared.automatic.fault.NextFault.TheVariants.{TooShort, Zone}

abbrev pub next_fault_text : NextFault → List ℕ
next_fault_text (Policy fault) = codes "policy: " ++ fault_text fault
next_fault_text (Zone fault) = due_fault_text fault
next_fault_text (TooShort fault) = codes "policy: " ++ too_short_text fault
next_fault_text OutOfMemory = memory_text

abbrev pub lacks_memory : NextFault → Bool
lacks_memory OutOfMemory = true
lacks_memory (Policy policy.OutOfMemory) = true
lacks_memory (Zone (Script script.OutOfMemory)) = true
lacks_memory (Zone (Notes notes.OutOfMemory)) = true
lacks_memory _ = false
