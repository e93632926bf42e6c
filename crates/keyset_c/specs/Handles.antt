-- What C holds of a session, as the library left it.
use Rattle.std.specs.Prelude.{◌≡◌, Option, is_some}
use Rattle.keyset_c.specs.declared.handle.Handle.{Handle}
use Rattle.keyset_c.specs.declared.open_session.OpenSession.{OpenSession}

-- what it keeps, if it is open
abbrev pub kept_by : Handle → Option OpenSession
kept_by h = h.pointer.value

-- it is open if and only if it keeps something
abbrev pub IsWhole : Handle → Type 0
IsWhole h = h.is_open ≡ is_some (kept_by h)
