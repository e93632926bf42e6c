-- The calls are counted by what is kept; a closed session keeps nothing.
use Rattle.std.proofs.Common.{Option, subst, sym}
use Rattle.keyset_c.specs.{Sessions.HasMade, declared.open_session.OpenSession.OpenSession}
use Rattle.keyset_c.proofs.questions.keyset_calls.Goals as goal

pub returns-in-Some-clause-made : goal.returns-in-Some-clause-made
returns-in-Some-clause-made c =
    subst (λ (old : Option OpenSession). HasMade old c.calls.result) (sym c.in-Some.ensures.value)
    (λ lines entries so. c.calls.ensures so.name so.calls entries so.stands)
