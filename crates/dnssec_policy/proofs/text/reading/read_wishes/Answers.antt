-- Each turn reads one line.
use Rattle.std.proofs.Common.{[], ◌+◌, ◌∙◌, ◌∷◌, ◌≡◌, Bor, List, ap, arith, drop, length, map}
use Rattle.std.proofs.Common.{sym, drop_of_length-le, suc, ◌<◌, ℕ}
use Rattle.std.proofs.{lemmas.List.length-map, Math.Seq.drop-cons}
use Rattle.std.proofs.lemmas.Result.{err_from_is_err_and}
use Rattle.dnssec_script.proofs.Texts.{shown_at, text_at, within_shown}
use Rattle.dnssec_policy.specs.Text.Reading.{read_from}
use Rattle.dnssec_policy.proofs.Texts.Steps.{faulty, one-more}
use denote.Bor.{now}
use Rattle.dnssec_policy.proofs.text.reading.read_wishes.Goals as goal

-- the line that comes next, and those after it
left : (xs : List (Bor (List ℕ))) (i : ℕ) → i < length xs
    → drop i (map now xs) ≡ text_at xs i ∷ drop (suc i) (map now xs)
left xs i within =
    drop-cons (map now xs) i [] (within_shown xs i within)
    ∙ ap (λ line. line ∷ drop (suc i) (map now xs)) (shown_at xs i within)

pub returns-in_err-draft : goal.returns-in_err-draft
returns-in_err-draft c =
    let xs = c.args.lines.now in let i = c.loop-index.index in
    let draft = c.loop-index.draft in
    let p = err_from_is_err_and c.from_residual.result c.from_residual.ensures.1 in
    rw (p.1, p.2) (sym (faulty c.args.scheme (i + 2) draft c.in_err-draft.field-0.0 (text_at xs i)
    (drop (suc i) (map now xs)) (sym c.line_after.ensures ∙ c.in_err-draft.was))
    ∙ ap (read_from c.args.scheme (i + 2) draft) (sym (left xs i c.loop-index-test.true))
    ∙ c.loop-index.invariant)

pub loop-index-preserved : goal.loop-index-preserved
loop-index-preserved c =
    let xs = c.args.lines.now in let i = c.loop-index.index in
    let draft = c.loop-index.draft in
    let more = c.in_ok-draft.draft in
    let next : suc i ≡ i + 1 = omega arith in
    let number : suc (i + 2) ≡ (i + 1) + 2 = omega arith in
    (λ j. read_from c.args.scheme (sym number j) more (drop (sym next j) (map now xs)))
    ∙ sym (one-more c.args.scheme (i + 2) draft more (text_at xs i)
    (drop (suc i) (map now xs)) (sym c.line_after.ensures ∙ c.in_ok-draft.was))
    ∙ ap (read_from c.args.scheme (i + 2) draft) (sym (left xs i c.loop-index-test.true))
    ∙ c.loop-index.invariant

pub returns : goal.returns
unfolding read_from
returns c =
    let xs = c.args.lines.now in let i = c.loop-index.index in
    let none : drop i (map now xs) ≡ [] =
    drop_of_length-le (map now xs) (omega (arith, length-map xs now, c.loop-index-test.false)) in
    ap (read_from c.args.scheme (i + 2) c.loop-index.draft) (sym none) ∙ c.loop-index.invariant
