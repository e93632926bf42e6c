-- What is read so far, and then what the rest will give, is what all keys give.
use Rattle.std.proofs.Common.{◌≡◌, ◌++◌, drop, map, take}
use Rattle.std.specs.HashMap as hash
use Rattle.dnssec_run.specs.Adds.{IsAscending, all_changes, listed_of, reread_at}
use Rattle.dnssec_run.proofs.adds.read_few.Given as goal

abbrev pub invariant-loop-known : goal.invariant-loop-known
invariant-loop-known l = record {
  ascending : IsAscending (map listed_of l.known-items);
  read : map listed_of (take l.known-index l.known-items)
      ++ map (reread_at (hash.get_by_text l.fn.keys))
      (map listed_of (drop l.known-index l.known-items))
      ≡ map (reread_at (hash.get_by_text l.fn.keys)) (map listed_of l.fn.list.items);
  changes : l.changes.items
      ++ all_changes (hash.get_by_text l.fn.keys)
      (map listed_of (drop l.known-index l.known-items))
      ≡ l.fn.changes.items
      ++ all_changes (hash.get_by_text l.fn.keys) (map listed_of l.fn.list.items);
}
