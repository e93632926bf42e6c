-- The new key's tag comes into the index with it, and it is counted.
use Rattle.std.proofs.Common.{◌≡◌, false, None, Some, string_bytes, rules, refl, ap, arith}
use Rattle.std.proofs.Common.{true, ◌∙◌}
use Rattle.std.specs.FinMap.{get}
use Rattle.dnssec_zone.specs.Inner.TagIndex.{has}
use Rattle.dnssec_zone.specs.Keys.{keys_in_map, has_tag}
use Rattle.dnssec_zone.specs.Inner.Counts.{AreCountable}
use Rattle.dnssec_zone.proofs.{Counted.counts-added, Counted.count-changed, Walks.shown}
use Rattle.dnssec_zone.proofs.{Walks.get-updated, Tags.TagsAgree-added}
use Rattle.dnssec_zone.proofs.keys.Keys.add.Goals as goal

pub invariant_of-self-2 : goal.invariant_of-self-2
invariant_of-self-2 c =
    let i = c.self.inside in
    let r = string_bytes c.args.pubref in
    let x = c.args.key in
    let n = keys_in_map c.put_new.new.map in
    let absent : get (keys_in_map i.map) r ≡ None = search (rules, shown) in
    let free : has_tag x.key_tag (keys_in_map i.map) ≡ false =
    ap (has_tag x.key_tag) c.self.view_is ∙ search rules in
    let is = get-updated i.map c.put_new.new.map r (Some x) c.in_ok-put_new.ensures.ok in
    let few : AreCountable n = grind (
      arith,
      c.index_many.ensures.few,
      absent,
      count-changed (λ q k. true) (keys_in_map i.map) n r (Some x) is,
    ) in (
      TagsAgree-added (keys_in_map i.map) n r x absent is free (has c.index_many.new.self.tags)
          (has c.add.new.self.tags) (λ t. search rules)
          (c.index_many.ensures.agree c.self.invariant.0),
      rw (c.add.ensures.counts, c.keytype-keytype.ensures, c.index_many.ensures.counts)
          (counts-added i.derived.counts (keys_in_map i.map) n r (Some x) is c.self.invariant.1 x
          refl absent few),
      c.add.ensures.waits _,
      few,
    )

-- a tag in use is the first cause
pub returns-then-has_tag-clause-reply : goal.returns-then-has_tag-clause-reply
returns-then-has_tag-clause-reply c = search rules
