-- What is collected so far, and then what the rest of the walk will collect, is all that a walk
-- collects; and what is put in so far, and then the rest, leaves what all of it leaves.
use Rattle.std.proofs.Common.{◌≡◌, ◌++◌, ℕ, List, drop, map}
use Rattle.std.specs.{BTreeMap.get_by_text}
use Rattle.std.specs.HashMap as hash
use Rattle.dnssec_run.specs.Adds.{all_changes, by_text}
use Rattle.dnssec_run.proofs.Moves.{move_lent, moved_to, moves_of}
use Rattle.dnssec_run.proofs.many.read_many.Given as goal

abbrev pub invariant-loop-reference : goal.invariant-loop-reference
invariant-loop-reference l = record {
  changes : l.changes.items
      ++ all_changes (hash.get_by_text l.fn.keys) (by_text l.reference-iterator)
      ≡ l.fn.changes.items
      ++ all_changes (hash.get_by_text l.fn.keys) (by_text l.fn.tree.entries);
  moves : map move_lent l.moved.items
      ++ moves_of (hash.get_by_text l.fn.keys) (by_text l.reference-iterator)
      ≡ moves_of (hash.get_by_text l.fn.keys) (by_text l.fn.tree.entries);
}

abbrev pub invariant-loop-reference-2 : goal.invariant-loop-reference-2
invariant-loop-reference-2 l = (q : List ℕ)
    → moved_to (map move_lent (drop l.reference-index l.reference-items)) q (get_by_text l.tree q)
    ≡ moved_to (map move_lent l.reference-items) q (get_by_text l.fn.tree q)
