-- What a pointer that C keeps stands for.
use base.Fml.{Fml, ftrue}
use denote.RawPtr.{Ptr}
use mir.Syntax.{Ty}
use Rattle.std.specs.Prelude.{Option, Some, None}
use Rattle.std.specs.Box.Ownership.{box_owns}
use Rattle.std.specs.contracts.impls.GlobalAllocator.TheImpl.{ghosts}
use Rattle.keyset_c.specs.contracts.open_session.OpenSession.{the_row}
use Rattle.keyset_c.specs.declared.open_session.OpenSession.{OpenSession}

-- the right to free a block of the heap
abbrev pub chunk : Ty → Ptr → Fml
chunk = ghosts.dealloc_token (record { memory = record { seal = tt } })

-- nothing, or the value on the heap that it points to
abbrev pub kept_owned : Ptr → Option OpenSession → Fml
kept_owned p None = ftrue
kept_owned p (Some kept) = box_owns chunk the_row p kept
