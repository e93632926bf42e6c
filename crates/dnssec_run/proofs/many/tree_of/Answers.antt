-- The next key goes over.
use Rattle.std.proofs.Common.{◌∙◌, List, Some, ap, map, string_bytes, subst, sym}
use Rattle.std.proofs.lemmas.Map.Text.{btree_map_updates_text}
use Rattle.std.specs.{BTreeMap.get_by_text, Vec.Iter.into_iter_items}
use Rattle.dnssec_zone.proofs.Quantified.{second}
use Rattle.dnssec_run.specs.Adds.{IsAscending, listed_of, listing_of}
use Rattle.dnssec_run.specs.declared.lists.Known.{Known}
use Rattle.dnssec_run.proofs.Trees.{either, one-over}
use Rattle.dnssec_run.proofs.many.tree_of.Goals as goal

pub loop-listing-preserved : goal.loop-listing-preserved
loop-listing-preserved c =
    let inv = c.loop-listing.invariant in
    let steps = c.in-Some.ensures.steps.0 in
    let key = c.in-Some.field-0 in
    let rest = into_iter_items c.next.new.self in
    let tree = c.loop-listing.tree in
    let up = subst (λ (keys : List Known). IsAscending (map listed_of keys)) steps
    inv.ascending in
    record {
      ascending = second _ _ up;
      found = λ q. inv.found q
          ∙ ap (λ (keys : List Known). either (listing_of (map listed_of keys) q)
          (get_by_text tree q)) steps
          ∙ one-over key rest q (get_by_text tree q) up
          ∙ ap (either (listing_of (map listed_of rest) q)) (sym (btree_map_updates_text
          (string_bytes key.reference) tree c.insert.new.self (Some key.listing)
          c.in_ok-insert.ensures.updates q));
    }
