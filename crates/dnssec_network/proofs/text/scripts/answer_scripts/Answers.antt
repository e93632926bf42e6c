-- The scripts are those of the text, and their answers are joined.
use Rattle.std.proofs.Common.{List, ap, map, subst, ◌∙◌}
use Rattle.std.proofs.lemmas.Result.{err_from_is_err_and}
use Rattle.std.specs.{List.join_by, Prelude.codes, Prelude.string_bytes}
use Rattle.std.specs.declared.alloc.Global.{Global}
use Rattle.dnssec_network.specs.Text.Scripts.{AnswersEach, ScriptWithNotes, as_noted, scripts_among}
use Rattle.dnssec_network.proofs.Texts.Parting.{joined_bytes}
use denote.Bor.{now}
use Rattle.dnssec_network.proofs.text.scripts.answer_scripts.Goals as goal

pub returns-clause-ok : goal.returns-clause-ok
returns-clause-ok c =
    let parts = ap (map now) c.deref.ensures.value ∙ c.in_ok-parts.ensures in
    let scripts = ap (map as_noted) c.deref-2.ensures.value ∙ c.in_ok-scripts.ensures
    ∙ ap scripts_among parts in
    record {
      texts = map string_bytes c.in_ok-answers.answers.items;
      answers = subst (λ (ss : List ScriptWithNotes). AnswersEach ss
          (map string_bytes c.in_ok-answers.answers.items)) scripts c.in_ok-answers.ensures.ok;
      joined = c.in_ok-all.ensures.ok
          ∙ ap (join_by (string_bytes {Z = Global}) (codes "\n")) c.deref-3.ensures.value
          ∙ joined_bytes (string_bytes {Z = Global}) (codes "\n") c.in_ok-answers.answers.items;
    }

pub returns-in_err-answers-clause-err : goal.returns-in_err-answers-clause-err
returns-in_err-answers-clause-err c =
    let answered = c.from_residual-in_err-answers in
    let p = err_from_is_err_and answered.result answered.ensures.1 in
    let parts = ap (map now) c.deref.ensures.value ∙ c.in_ok-parts.ensures in
    let scripts = ap (map as_noted) c.deref-2.ensures.value ∙ c.in_ok-scripts.ensures
    ∙ ap scripts_among parts in
    rw (p.1, p.2) (rw scripts at c.in_err-answers.ensures.err)
