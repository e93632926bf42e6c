-- One key more is in the tree.
use Rattle.std.proofs.Common.{Some, string_bytes}
use Rattle.std.proofs.lemmas.Map.Text.{btree_map_updates_text}
use Rattle.dnssec_run.proofs.many.put_in_tree.Goals as goal

pub returns-clause-put : goal.returns-clause-put
returns-clause-put c q = btree_map_updates_text (string_bytes c.args.reference)
    c.args.tree.now c.insert-put.new.self (Some c.args.listing) c.in_ok-put.ensures.updates q
