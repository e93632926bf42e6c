-- One more set.
use Rattle.dnssec_judge.proofs.Words.{in_either}
use Rattle.std.proofs.{Common.arith, Common.length, Common.◌<◌, lemmas.List.drop_more}
use Rattle.dnssec_judge.proofs.window.spans.Spans.word.Goals as goal

pub loop-place-preserved : goal.loop-place-preserved
loop-place-preserved c n e =
    let items = c.args.self.now.list.items in let at = c.loop-place.place in
    let lt : at < length items = omega (arith, c.loop-place-test.true, c.len-place-end.ensures) in
    let more = drop_more items at c.index.result.now lt in
    let so_far = rw (more, ← c.index.ensures) at c.loop-place.invariant n e in
    rw (← so_far)
    (grind (arith, in_either c.loop-place.word c.word-word.result n, c.word-word.ensures n e))
