-- Each key is among those that are left, or else in the tree.
use Rattle.std.proofs.Common.{◌≡◌, ℕ, List, map}
use Rattle.std.specs.{Vec.Iter.into_iter_items, BTreeMap.get_by_text}
use Rattle.dnssec_run.specs.Adds.{IsAscending, listed_of, listing_of}
use Rattle.dnssec_run.proofs.Trees.{either}
use Rattle.dnssec_run.proofs.many.tree_of.Given as goal

abbrev pub invariant-loop-listing : goal.invariant-loop-listing
invariant-loop-listing l = record {
  ascending : IsAscending (map listed_of (into_iter_items l.listing-iterator));
  found : (q : List ℕ) → listing_of (map listed_of l.fn.keys.items) q
      ≡ either (listing_of (map listed_of (into_iter_items l.listing-iterator)) q)
      (get_by_text l.tree q);
}
