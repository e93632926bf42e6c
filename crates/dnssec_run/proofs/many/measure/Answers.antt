-- A tree says that its keys are in order, and how many there are at most.
use Rattle.dnssec_run.proofs.Trees.{measured}
use Rattle.dnssec_run.proofs.many.measure.Goals as goal

pub returns : goal.returns
returns c = measured c.args.tree.now.entries c.len.result c.len.ensures.ordered c.len.ensures.len
    c.len.ensures.small
