-- The reports are due by what it keeps.
use Rattle.std.proofs.Common.{Option, Some, subst, sym, ◌∙◌, ◌≡◌}
use Rattle.std.proofs.lemmas.Option.{same_Some}
use Rattle.keyset_c.specs.Sessions.{HasNoNotes}
use Rattle.keyset_c.proofs.Opened.{keeps_at, keeps_if}
use Rattle.keyset_c.specs.declared.open_session.OpenSession.{OpenSession}
use Rattle.keyset_c.proofs.questions.keyset_due.Goals as goal

-- what is kept is one
same_notes : (old : Option OpenSession) (one other : OpenSession) → old ≡ Some one
    → old ≡ Some other → HasNoNotes other → HasNoNotes one
same_notes old one other is was none = subst HasNoNotes (same_Some other one (sym was ∙ is)) none

pub returns-in-Some-clause-told : goal.returns-in-Some-clause-told
returns-in-Some-clause-told c = keeps_if c.in-Some.ensures.value c.say_due.ensures.answered

pub returns-in-Some-clause-needed : goal.returns-in-Some-clause-needed
returns-in-Some-clause-needed c = keeps_at c.in-Some.ensures.value c.say_due.ensures.needed

pub returns-in-Some-clause-no_notes : goal.returns-in-Some-clause-no_notes
returns-in-Some-clause-no_notes c = (
  keeps_if c.in-Some.ensures.value c.say_due.ensures.missing.0,
  λ lacks. c.say_due.ensures.missing.1
      (same_notes _ _ lacks.kept c.in-Some.ensures.value lacks.is lacks.so),
)
