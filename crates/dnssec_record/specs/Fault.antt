-- The faults of a script: their statuses and texts.
use Rattle.std.specs.Prelude.{ℕ, List, ◌++◌, codes, decimal}
use Rattle.dnssec_script.specs.declared.lines.ReadFault.{ReadFault}
use Rattle.dnssec_script.specs.declared.lines.ReadFault.TheVariants as read
use Rattle.dnssec_record.specs.declared.fault.ScriptFault.{ScriptFault}
use Rattle.dnssec_record.specs.declared.fault.ScriptFault.TheVariants.{Malformed, Device}
use Rattle.dnssec_record.specs.declared.fault.ScriptFault.TheVariants.{OutOfMemory}

-- the fault of a script that isn't read on
abbrev pub fault_of_reading : ReadFault → ScriptFault
fault_of_reading (read.Malformed n) = Malformed n
fault_of_reading read.OutOfMemory = OutOfMemory

-- the status that a program ends with
abbrev pub fault_status : ScriptFault → ℕ
fault_status (Malformed n) = 1
fault_status Device = 2
fault_status OutOfMemory = 3

-- each fault's message
abbrev pub script_fault_text : ScriptFault → List ℕ
script_fault_text (Malformed n) = codes "line " ++ decimal n ++ codes ": malformed"
script_fault_text Device = codes "input or output fault"
script_fault_text OutOfMemory = codes "out of memory"
