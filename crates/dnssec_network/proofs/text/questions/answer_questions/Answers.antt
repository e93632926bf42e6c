-- The session stands after the script, and its notes are the lines.
use Rattle.std.proofs.Common.{subst, map, ap, ◌∙◌, List, ℕ}
use Rattle.std.{proofs.lemmas.Result.err_from_is_err_and, specs.Prelude.string_bytes}
use Rattle.dnssec_script.specs.Script.{lines_of}
use Rattle.dnssec_network.proofs.Texts.{Asking.zip_weaker, Parting.unanswered}
use Rattle.dnssec_network.specs.Text.Questions.{AnswersAll}
use denote.Bor.{now}
use Rattle.dnssec_network.proofs.text.questions.answer_questions.Goals as goal

pub returns-clause-ok : goal.returns-clause-ok
returns-clause-ok c =
    let resumed = c.in_ok-session.ensures.ok in
    let ran = resumed.resumes in
    let read = ap (map now) c.deref.ensures.value ∙ c.in-Ok.ensures in
    let answers = subst (λ (ls : List (List ℕ)). AnswersAll c.in_ok-session.session
    c.in_ok-session.moments ls (map string_bytes c.in_ok-answers.answers.items)) read
    c.in_ok-answers.ensures.ok in
    zip_weaker _ _ _ _ (λ question text due.
    record { entries = ran.entries; is_due = due; had_memory = ran.had_memory })
    (answers (lines_of c.args.script.now) ran.entries ran.stands resumed.moments).1.answers

pub returns-in_default-clause-err : goal.returns-in_default-clause-err
returns-in_default-clause-err c =
    (c.in_ok-session.session, c.in_ok-session.moments, c.in_ok-session.ensures.ok, tt)

pub returns-in_err-answers-clause-err : goal.returns-in_err-answers-clause-err
returns-in_err-answers-clause-err c =
    let answered = c.from_residual-in_err-answers in
    let p = err_from_is_err_and answered.result answered.ensures.1 in
    let read = ap (map now) c.deref.ensures.value ∙ c.in-Ok.ensures in
    rw (p.1, p.2) (
      c.in_ok-session.session,
      c.in_ok-session.moments,
      c.in_ok-session.ensures.ok,
      unanswered c.in_ok-session.session c.in_ok-session.moments _ c.args.notes.now _ read
          c.in_err-answers.ensures.err,
    )
