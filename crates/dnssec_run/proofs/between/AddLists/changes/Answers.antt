-- One change more is between the lists.
use Rattle.std.proofs.lemmas.List.Elements.{All-push}
use Rattle.dnssec_run.specs.Between.{IsBetween}
use Rattle.dnssec_run.proofs.between.AddLists.changes.Goals as goal

pub loop-added-preserved : goal.loop-added-preserved
loop-added-preserved c = rw c.in_ok-push.ensures.items
    (All-push (IsBetween c.args.self.now c.args.now.now) c.loop-added.changes.items _
    c.loop-added.invariant (record { was = c.with.ensures; shown = c.with-in-loop-added.ensures }))
