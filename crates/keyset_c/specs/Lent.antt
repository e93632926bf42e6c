-- What a pointer and what C holds end as, once a `&mut` to what they keep has ended.
use Rattle.std.specs.Borrow.{Fml, Lends, LendsIf, MutBor}
use Rattle.std.specs.Prelude.{Option, Some}
use Rattle.keyset_c.specs.contracts.handle.Handle as handle
use Rattle.keyset_c.specs.contracts.open_session.OpenSession as kept
use Rattle.keyset_c.specs.contracts.pointer.Pointer as pointer
use Rattle.keyset_c.specs.declared.handle.Handle.{Handle}
use Rattle.keyset_c.specs.declared.open_session.OpenSession.{OpenSession}
use Rattle.keyset_c.specs.declared.pointer.Pointer.{Pointer}

-- the same pointer with this in it
abbrev pub with_kept : Pointer → OpenSession → Pointer
with_kept p kept = record { ptr = p.ptr; value = Some kept }

abbrev pub lends_kept : MutBor Pointer → MutBor OpenSession → Fml
lends_kept p r = Lends pointer.the_row kept.the_row p r (with_kept p.now)

-- what C holds, with this in its pointer
abbrev pub holding : Handle → OpenSession → Handle
holding h kept = record h { pointer = with_kept h.pointer kept }

abbrev pub lends_if_open : MutBor Handle → Option (MutBor OpenSession) → Fml
lends_if_open h r = LendsIf handle.the_row kept.the_row h r (holding h.now) h.now
