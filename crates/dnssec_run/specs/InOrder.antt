-- The keys of a set in the order of their references.
use denote.Ref.{Bor}
use Rattle.std.specs.Prelude.{ℕ, List, string_bytes}
use Rattle.std.specs.declared.string.String.{String}
use Rattle.dnssec_key.specs.Key.{KeyParts}

-- a key at its reference, as both are lent
abbrev pub entry_of : {Y : Type 0} → Bor (String Y) × Bor KeyParts → List ℕ × KeyParts
entry_of e = (string_bytes e.0.now, e.1.now)
