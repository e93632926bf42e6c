-- One more add.
use Rattle.std.proofs.Common.{arith}
use Rattle.std.proofs.lemmas.{Bool.Decides.nat_tests, List.drop_more}
use Rattle.dnssec_run.proofs.between.changed_adds.Goals as goal

pub loop-change-preserved : goal.loop-change-preserved
loop-change-preserved c a =
    let put = c.in_ok-insert.ensures.updates in let was = c.loop-change.invariant a in
    let rest = drop_more c.args.changes.now c.loop-change.change-index c.change-item.result
    c.loop-change-test.true in
    grind (arith, nat_tests, put.0 a, was, rest, c.change-item.is)
