-- The key's tag leaves the index with it; a stale key was in no count, and in no wait.
use Rattle.std.proofs.Common.{◌≡◌, true, None, Some, rules, ap, arith, ◌∙◌}
use Rattle.std.proofs.lemmas.Map.Text.{hash_map_updates_text}
use Rattle.std.specs.FinMap.{get}
use Rattle.dnssec_key.specs.{State.is_stale, Key.all_states}
use Rattle.dnssec_zone.specs.Inner.TagIndex.{has}
use Rattle.dnssec_zone.specs.{Inner.Counts.bit, Inner.Counts.passes, Inner.Counts.share}
use Rattle.dnssec_zone.specs.{Keys.keys_in_map, Start.serves_as_kept}
use Rattle.dnssec_zone.proofs.{Ended.known-removed, Counted.counts-alike, Counted.stale-serves}
use Rattle.dnssec_zone.proofs.{Counted.count-changed}
use Rattle.dnssec_zone.proofs.{Walks.shown, Walks.get-updated, Tags.TagsAgree-removed}
use Rattle.dnssec_zone.proofs.keys.Keys.delete.Goals as goal

pub invariant_of-self : goal.invariant_of-self
invariant_of-self c =
    let i = c.self.inside in
    let r = c.args.pubref.now in
    let x = c.in-Some.key.now in
    let n = keys_in_map c.remove.new.self in
    let stale : all_states is_stale x.keytype ≡ true = search rules in
    let found : get (keys_in_map i.map) r ≡ Some x = search (rules, shown) in
    let is = get-updated i.map c.remove.new.self r None
    (hash_map_updates_text r i.map c.remove.new.self _ c.remove.ensures.updates) in (
      TagsAgree-removed (keys_in_map i.map) n r is x found (has i.derived.tags)
          (has c.delete.new.self.tags)
          (λ t. rw (← c.key_tag-key_tag.ensures) (c.delete.ensures.tags t))
          c.self.invariant.0,
      rw c.delete.ensures.counts (counts-alike i.derived.counts (keys_in_map i.map) n r None is
          c.self.invariant.1 (λ w. ap (share (passes (serves_as_kept w)) r) found
          ∙ ap bit (stale-serves x.keytype stale w))),
      rw c.delete.ensures.waits (
        known-removed (keys_in_map i.map) n r x found is stale i.derived.waits.of_ksks
            c.self.invariant.2.0,
        known-removed (keys_in_map i.map) n r x found is stale i.derived.waits.of_zsks
            c.self.invariant.2.1,
      ),
      omega (
        arith,
        c.self.invariant.3,
        count-changed (λ q k. true) (keys_in_map i.map) n r None is,
      ),
    )
