-- Each turn takes one line, or answers it.
use Rattle.std.proofs.Common.{[], ap, arith, inl, inr, map, refl, sym, ◌+◌, ◌≡◌}
use Rattle.std.proofs.lemmas.List.{length-map, nil_from_length, take_all, take_more}
use Rattle.std.proofs.lemmas.Slice.Zip.{AllZip-long}
use Rattle.std.specs.{Prelude.string_bytes, Prelude.vec_len, declared.alloc.Global.Global}
use Rattle.dnssec_script.proofs.Texts.{shown_at, within_shown}
use Rattle.dnssec_network.specs.Text.Questions.{questions_among}
use Rattle.dnssec_network.specs.declared.text.fault.NotesFault.TheVariants.{Malformed}
use denote.Bor.{now}
use Rattle.dnssec_network.proofs.text.questions.answer_lines.Goals as goal

pub loop-index-init : goal.loop-index-init
loop-index-init c = λ script entries so at.
    rw (c.new-notes.ensures, c.new-answers.ensures.items) (record { taken = refl; answers = tt })

pub loop-index-preserved : goal.loop-index-preserved
loop-index-preserved c = λ script entries so at.
    let xs = c.args.lines.now in
    let i = c.loop-index.index in
    let within = c.loop-index-test.true in
    rw (take_more (map now xs) i [] (within_shown xs i within), shown_at xs i within)
    (c.in-Ok.ensures.ok script _ entries so at (c.loop-index.invariant script entries so at))

pub returns-in-Err-clause-err : goal.returns-in-Err-clause-err
returns-in-Err-clause-err c = λ script entries so at.
    let xs = c.args.lines.now in
    let i = c.loop-index.index in
    let within = c.loop-index-test.true in
    inl (record {
      i = i;
      within = within_shown xs i within;
      noted = _;
      texts = _;
      above = c.loop-index.invariant script entries so at;
      why = c.in-Err.fault;
      here = rw (shown_at xs i within) (c.in-Err.ensures.err script entries so at);
      is = c.at.ensures;
    })

pub returns-clause-ok : goal.returns-clause-ok
returns-clause-ok c = λ script entries so moments.
    let all = take_all c.loop-index.index (map now c.args.lines.now)
    (omega (arith, length-map c.args.lines.now now, c.loop-index-test.false)) in
    (c.loop-index.notes, rw all at c.loop-index.invariant script entries so moments)

pub returns-then-is_empty-clause-err : goal.returns-then-is_empty-clause-err
returns-then-is_empty-clause-err c = λ script entries so moments.
    let at = c.loop-index in
    let xs = c.args.lines.now in
    let all = take_all at.index (map now xs)
    (omega (arith, length-map xs now, c.loop-index-test.false)) in
    let zipped = AllZip-long _ _ _ (rw all at (at.invariant script entries so moments)).answers in
    let empty : vec_len at.answers ≡ 0 = grind (arith, c.is_empty.ensures, c.if-is_empty.true) in
    let texts = length-map at.answers.items (string_bytes {Z = Global}) in
    inr (record {
      none = nil_from_length (questions_among (map now xs))
          (omega (arith, zipped, texts, empty, at.answers.ok.0));
      is = ap (λ n. Malformed (n + 1)) (sym (length-map xs now));
    })
