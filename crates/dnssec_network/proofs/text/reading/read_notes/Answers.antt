-- The first line, and the others, one by one.
use Rattle.std.proofs.Common.{◌≡◌, ℕ, ◌+◌, ◌==◌, ◌∙◌, List, [], ◌∷◌, ap, arith, inl, inr, length}
use Rattle.std.proofs.Common.{Option, Some, refl, rules, subst, sym, tests}
use Rattle.std.proofs.lemmas.Iterator.{YieldsList}
use Rattle.std.proofs.lemmas.Iterator.Consumers.{YieldsList-end, YieldsList-so_far, YieldsList-turn}
use Rattle.std.proofs.lemmas.Iterator.Splits.{YieldsList-from_slice_split}
use Rattle.std.proofs.lemmas.List.{get_or_default, length_push, map-append}
use Rattle.std.{proofs.lemmas.Result.err_from_is_err_and, specs.Option.option_map}
use Rattle.dnssec_network.specs.Notes.{NotesParts}
use Rattle.dnssec_script.specs.Script.{lines_of, without_end}
use Rattle.dnssec_network.proofs.Texts.Noting.{facts-more, lines-fit}
use Rattle.dnssec_network.specs.Text.{Lines.before_says, Reading.AreFacts, Reading.IsFaultOf}
use Rattle.dnssec_network.specs.declared.text.fault.NotesFault.TheVariants.{Malformed}
use Rattle.dnssec_network.proofs.text.reading.read_notes.{Given.iterator-loop-line, Goals.In-Some}
use Rattle.dnssec_network.proofs.text.reading.read_notes.Goals as goal

-- the first item of an iterator whose list is known, and the others
first_yielded : {S A B : Type 0} {steps : S → Option A → S → Type 0} {v : A → B} {s : S}
    {all : List B} → YieldsList steps v s all → (r : Option A) (u t : S) (x : A) → r ≡ Some x
    → steps s r u → t ≡ u → (rest : List B) × (all ≡ v x ∷ rest) × YieldsList steps v t rest
first_yielded {steps = steps} {s = s} {all = []} e r u t x is step same =
    absurd (e.runs x u (subst (λ r. steps s r u) is step))
first_yielded {steps = steps} {s = s} {all = y ∷ ys} e r u t x is step same =
    let m = e.runs.1 x t (subst (λ r. steps s r t) is (subst (steps s r) (sym same) step)) in
    (ys, (λ i. sym m.0 i ∷ ys), record { runs = m.1 })

-- the first line, and the others, which an iterator over the lines then gives
first_line : (c : In-Some) (t : _) → t ≡ c.next.new.self → (rest : List (List ℕ))
    × (lines_of c.args.text.now ≡ c.in-Some.first.now ∷ rest)
    × YieldsList iterator-loop-line.next_gives (λ l. l.now) t rest
first_line c t same =
    let split = c.split-lines.ensures in
    first_yielded (YieldsList-from_slice_split {s = c.split-lines.result} _ (λ b. b == 10)
    (without_end c.args.text.now) (split.rest ∙ c.without_end.ensures) split.done split.closure
    (λ x b q k. search (rules, tests))) c.next.result _ t c.in-Some.first c.in-Some.is
    c.next.ensures.steps same

pub returns-in_default-read_before-clause-err : goal.returns-in_default-read_before-clause-err
returns-in_default-read_before-clause-err c =
    let first = first_line (goal.at.returns-in_default-read_before-clause-err c).In-Some _ refl in
    let said = sym c.read_before.ensures
    ∙ ap (option_map before_says) c.in_default-read_before.is in
    subst (λ (ls : List (List ℕ)). IsFaultOf c.args.moments.now ls (Malformed 1)) (sym first.1)
    (inl (said, refl))

pub loop-line-init : goal.loop-line-init
loop-line-init c = rw c.new-notes.ensures (refl, refl, record { said = refl; taken = tt })

pub overflow_add-number : goal.overflow_add-number
overflow_add-number c =
    let l = c.loop-line in
    let first = first_line (goal.at.overflow_add-number c).In-Some _
    c.into_iter-line-iterator.ensures.into_iter_gives in
    let turn = YieldsList-turn first.2 l.yielded _ l.yielded_by _ _ c.in-Some-line.line
    c.in-Some-line.is c.next-in-loop-line.ensures.steps in
    omega (arith, l.invariant.0, turn.0, ap length first.1, lines-fit c.args.text.now)

pub loop-line-preserved : goal.loop-line-preserved
loop-line-preserved c =
    let l = c.loop-line in
    let line = c.in_ok-note_line.ensures.ok in (
      omega (arith, length_push l.yielded c.in-Some-line.line, l.invariant.0),
      ap (λ (n : NotesParts). n.before) line.notes ∙ l.invariant.1,
      rw map-append (facts-more _ _ _ _ _ line l.invariant.2),
    )

pub returns-clause-ok : goal.returns-clause-ok
returns-clause-ok c =
    let l = c.loop-line in
    let first = first_line (goal.at.returns-clause-ok c).In-Some _
    c.into_iter-line-iterator.ensures.into_iter_gives in
    let said = sym c.read_before.ensures
    ∙ ap (option_map before_says) c.in-Some-read_before.is in
    let end = YieldsList-end first.2 l.yielded _ l.yielded_by _ _ c.in-None.is
    c.next-in-loop-line.ensures.steps in
    rw first.1 (
      rw (l.invariant.1, c.new-notes.ensures) said,
      subst (λ (ls : List (List ℕ)). AreFacts c.args.moments.now ls l.notes.facts) end.0
          l.invariant.2,
    )

pub returns-in_err-note_line-clause-err : goal.returns-in_err-note_line-clause-err
returns-in_err-note_line-clause-err c =
    let l = c.loop-line in
    let p = err_from_is_err_and c.from_residual.result c.from_residual.ensures.1 in
    let first = first_line (goal.at.returns-in_err-note_line-clause-err c).In-Some _
    c.into_iter-line-iterator.ensures.into_iter_gives in
    let said = sym c.read_before.ensures
    ∙ ap (option_map before_says) c.in-Some-read_before.is in
    let turn = YieldsList-turn first.2 l.yielded _ l.yielded_by _ _ c.in-Some-line.line
    c.in-Some-line.is c.next-in-loop-line.ensures.steps in
    let so_far = YieldsList-so_far first.2 l.yielded _ l.yielded_by in
    let stands = turn.1
    ∙ get_or_default first.0 (length l.yielded) c.in-Some-line.line.now [] turn.0 in
    let number : l.number + 1 ≡ length l.yielded + 2 = omega (arith, l.invariant.0) in
    rw (p.1, p.2, first.1) (inr (
      (c.in-Some-read_before.before, said),
      record {
        i = length l.yielded;
        within = turn.0;
        facts = l.notes.facts;
        before = subst (λ (ls : List (List ℕ)). AreFacts c.args.moments.now ls l.notes.facts) so_far
            l.invariant.2;
        here = rw (← stands, ← number) c.in_err-note_line.ensures.err;
      },
    ))
