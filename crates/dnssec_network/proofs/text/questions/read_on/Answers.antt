-- The line is taken, or answered.
use Rattle.std.proofs.Common.{Option, ap, refl, string_bytes, subst, sym, ◌∙◌}
use Rattle.std.{proofs.lemmas.List.map-append, specs.Option.is_some, specs.Option.option_map}
use Rattle.std.specs.{Prelude.IsSome, declared.alloc.Global.Global, declared.string.String.String}
use Rattle.dnssec_run.specs.Moments.{moments_of}
use Rattle.dnssec_network.proofs.Texts.Asking.{memory_ended, note_answered, question_answered}
use Rattle.dnssec_network.specs.Text.Questions.{ComesOf, notes_among}
use Rattle.dnssec_network.proofs.text.questions.read_on.Goals as goal
use Rattle.dnssec_network.proofs.text.questions.read_on.Goals.{in-Ok, in-Err}

pub returns-in-None-clause-ok : goal.returns-in-None-clause-ok
returns-in-None-clause-ok c script lines entries so at answered =
    note_answered script entries lines c.args.line.now c.args.notes.now c.answer_line.new.self _
    answered
    (subst (λ (o : Option (String Global)). ComesOf script entries (notes_among lines)
    c.args.line.now (option_map string_bytes o) c.answer_line.new.self) c.in-None.is
    (c.in_ok-answer_line.ensures.answer script (notes_among lines) entries so at answered.taken))

pub returns-after-push-clause-ok : goal.returns-after-push-clause-ok
returns-after-push-clause-ok c = elim c.match-push.branch [
  | in-Ok w ↦ rw w.result-is (λ script lines entries so at answered.
      let items = rw w.in-Ok.is at c.push.ensures.items in
      rw (items, map-append) (question_answered script entries lines c.args.line.now
      c.args.notes.now c.answer_line.new.self _ (string_bytes c.in-Some.text) answered
      (subst (λ (o : Option (String Global)). ComesOf script entries (notes_among lines)
      c.args.line.now (option_map string_bytes o) c.answer_line.new.self) c.in-Some.is
      (c.in_ok-answer_line.ensures.answer script (notes_among lines) entries so at
      answered.taken))))
  | in-Err w ↦ rw w.result-is tt
]

pub returns-after-push-clause-err : goal.returns-after-push-clause-err
returns-after-push-clause-err c = elim c.match-push.branch [
  | in-Ok w ↦ rw w.result-is tt
  | in-Err w ↦ rw w.result-is (λ script entries so at.
      memory_ended (moments_of entries) c.args.notes.now _ c.args.line.now
      (sym (ap is_some c.in-Some.is) ∙ c.in_ok-answer_line.ensures.question)
      (subst (λ (o : Option (String Global)). IsSome o → IsSome c.args.notes.now) c.in-Some.is
      c.in_ok-answer_line.ensures.begun refl))
]
