-- The copy of the session stands after the same calls.
use Rattle.keyset_c.proofs.sessions.copy_of.Goals as goal

pub returns-clause-stands : goal.returns-clause-stands
returns-clause-stands c = λ name calls entries stands.
    rw c.in_ok-new.ensures.ok (c.in_ok-try_clone.ensures name calls entries stands)
