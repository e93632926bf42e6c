-- One key less is in the tree.
use Rattle.std.proofs.Common.{None}
use Rattle.std.proofs.lemmas.Map.Text.{btree_map_updates_text}
use Rattle.dnssec_run.proofs.adds.Adds.take.Goals as goal

pub returns-in-Many : goal.returns-in-Many
returns-in-Many c q = rw c.in-Many.is (btree_map_updates_text c.args.reference.now c.in-Many.tree
    c.remove.new.self None c.remove.ensures.updates q)
