-- What made the call, or didn't, is what the session keeps.
use Rattle.std.proofs.Common.{refl}
use Rattle.keyset_c.proofs.Opened.{if_open}
use Rattle.keyset_c.proofs.keyset_accept.Goals as goal

pub returns-in-Some-clause-accepted : goal.returns-in-Some-clause-accepted
returns-in-Some-clause-accepted c = if_open c.in-Some.ensures.value refl c.accept.ensures.accepted

pub returns-in-Some-clause-refused : goal.returns-in-Some-clause-refused
returns-in-Some-clause-refused c = if_open c.in-Some.ensures.value refl c.accept.ensures.refused
