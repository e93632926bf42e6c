-- Each turn answers the questions of one script.
use Rattle.std.proofs.Common.{[], arith, inl, map, refl}
use Rattle.std.proofs.lemmas.List.{length-map, map-append, take_all, take_more}
use Rattle.std.proofs.lemmas.Result.{err_from_is_err_and}
use Rattle.std.specs.{Prelude.string_bytes, declared.alloc.Global.Global}
use Rattle.dnssec_network.specs.Text.Scripts.{as_noted, no_script}
use Rattle.dnssec_network.proofs.Texts.Parting.{each_more, noted_at, noted_within}
use Rattle.dnssec_network.proofs.text.scripts.answer_each.Goals as goal

pub loop-noted-init : goal.loop-noted-init
loop-noted-init c = rw c.new-answers.ensures.items (record { answers = []; each = tt; all = refl })

pub loop-noted-preserved : goal.loop-noted-preserved
loop-noted-preserved c =
    let xs = c.args.scripts.now in
    let i = c.loop-noted.noted-index in
    let within = c.loop-noted-test.true in
    let more = c.in_ok-more.more in
    let texts = length-map more.items (string_bytes {Z = Global}) in
    rw (
      take_more (map as_noted xs) i no_script (noted_within xs i within),
      noted_at xs i within,
      c.in_ok-append.ensures.items,
      map-append,
    )
    (each_more _ _ _ _ c.loop-noted.invariant
    (c.in_ok-more.ensures.ok, omega (arith, texts, c.in_ok-more.ensures.asked, more.ok.0)))

pub returns-in_err-more-clause-err : goal.returns-in_err-more-clause-err
returns-in_err-more-clause-err c =
    let p = err_from_is_err_and c.from_residual.result c.from_residual.ensures.1 in
    let xs = c.args.scripts.now in
    let i = c.loop-noted.noted-index in
    let within = c.loop-noted-test.true in
    rw (p.1, p.2) (inl (record {
      i = i;
      within = noted_within xs i within;
      texts = _;
      before = c.loop-noted.invariant;
      here = rw (noted_at xs i within) c.in_err-more.ensures.err;
    }))

pub returns-clause-ok : goal.returns-clause-ok
returns-clause-ok c =
    let xs = c.args.scripts.now in
    let all = take_all c.loop-noted.noted-index (map as_noted xs)
    (omega (arith, length-map xs as_noted, c.loop-noted-test.false)) in
    rw all at c.loop-noted.invariant
