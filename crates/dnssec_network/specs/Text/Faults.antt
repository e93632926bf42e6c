-- The texts of faults.
use Rattle.std.specs.Prelude.{ℕ, ◌++◌, List, codes, decimal}
use Rattle.dnssec_network.specs.Texts.{fault_text, memory_text}
use Rattle.dnssec_record.specs.Fault.{script_fault_text}
use Rattle.dnssec_network.specs.declared.text.fault.DueFault.{DueFault}
use Rattle.dnssec_network.specs.declared.text.fault.DueFault.TheVariants.{Script, Notes}
use Rattle.dnssec_network.specs.declared.text.fault.{LineFault.LineFault, NotesFault.NotesFault}
use Rattle.dnssec_network.specs.declared.text.fault.NotesFault.TheVariants.{Malformed, Refused}
use Rattle.dnssec_network.specs.declared.text.fault.NotesFault.TheVariants.{OutOfMemory}
use Rattle.dnssec_network.specs.declared.text.fault.LineFault.TheVariants as line

-- what is said of a line
abbrev pub line_fault_text : LineFault → List ℕ
line_fault_text line.Malformed = codes "malformed"
line_fault_text (line.Refused fault) = fault_text fault
line_fault_text line.OutOfMemory = memory_text

-- of notes
abbrev pub notes_fault_text : NotesFault → List ℕ
notes_fault_text (Malformed n) = codes "line " ++ decimal n ++ codes ": malformed"
notes_fault_text (Refused n fault) = codes "line " ++ decimal n ++ codes ": " ++ fault_text fault
notes_fault_text OutOfMemory = memory_text

-- and of a script with its notes
abbrev pub due_fault_text : DueFault → List ℕ
due_fault_text (Script fault) = codes "script: " ++ script_fault_text fault
due_fault_text (Notes fault) = codes "notes: " ++ notes_fault_text fault
