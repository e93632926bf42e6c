-- What was read from a device, or written to one, before it failed.
use Rattle.std.specs.Prelude.{◌≡◌, ℕ, ◌+◌, List, ◌++◌, Option}
use Rattle.std.specs.Io.KnownBytes.{Appends}
use Rattle.dnssec_record.specs.declared.fault.ScriptFault.{ScriptFault}
use Rattle.dnssec_record.specs.declared.fault.ScriptFault.TheVariants.{Malformed, Device}
use Rattle.dnssec_record.specs.declared.fault.ScriptFault.TheVariants.{OutOfMemory}

-- the fault of a read to the end, from the numbers of faults before and after it
abbrev pub FaultOfInput : ℕ → ℕ → ScriptFault → Type 0
FaultOfInput old new (Malformed n) = ⊥
FaultOfInput old new Device = new ≡ old + 1
FaultOfInput old new OutOfMemory = new ≡ old

-- a device took a front of these bytes
abbrev pub TakesFront : Option (List ℕ) → Option (List ℕ) → List ℕ → Type 0
TakesFront old new bytes =
    (front : List ℕ) × (rest : List ℕ) × (bytes ≡ front ++ rest) × Appends old new front
