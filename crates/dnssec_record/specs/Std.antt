-- What a contract sees of a device over a reader or a writer of the standard library.
use Rattle.std.specs.Prelude.{ℕ}
use Rattle.dnssec_record.specs.declared.device.Std.{Std}

-- the reader or writer that it was made from
abbrev pub std_inner : {T : Type 0} → Std T → T
std_inner device = device.inner

-- how often it has failed
abbrev pub std_faults : {T : Type 0} → Std T → ℕ
std_faults device = device.faults
