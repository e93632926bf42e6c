-- The notes that took the line, or didn't, are those of the session.
use Rattle.std.proofs.Common.{refl}
use Rattle.keyset_c.proofs.Opened.{if_open, keeps}
use Rattle.keyset_c.proofs.keyset_note.Goals as goal

pub returns-in-Some-clause-noted : goal.returns-in-Some-clause-noted
returns-in-Some-clause-noted c = if_open c.in-Some.ensures.value refl c.note.ensures.noted

pub returns-in-Some-clause-refused : goal.returns-in-Some-clause-refused
returns-in-Some-clause-refused c = λ other still.
    keeps c.in-Some.ensures.value (c.note.ensures.refused other)
