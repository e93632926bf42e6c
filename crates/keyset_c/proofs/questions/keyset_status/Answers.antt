-- The status is that of what it keeps.
use Rattle.keyset_c.proofs.Opened.{keeps_at, keeps_if}
use Rattle.keyset_c.proofs.questions.keyset_status.Goals as goal

pub returns-in-Some-clause-told : goal.returns-in-Some-clause-told
returns-in-Some-clause-told c = keeps_if c.in-Some.ensures.value c.say_status.ensures.answered

pub returns-in-Some-clause-needed : goal.returns-in-Some-clause-needed
returns-in-Some-clause-needed c = keeps_at c.in-Some.ensures.value c.say_status.ensures.needed
