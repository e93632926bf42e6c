-- The walk undoes the start on each key that is listed; all are counted again.
use Rattle.std.proofs.Common.{rules}
use Rattle.dnssec_key.specs.RollTable.{after_early_end}
use Rattle.dnssec_zone.specs.Inner.Bits.{is_set}
use Rattle.dnssec_zone.proofs.Walks.{IsWalked, get-walked, retained}
use Rattle.dnssec_zone.proofs.Counted.{countable-kept}
use Rattle.dnssec_zone.proofs.Tags.{tags-walked, kept_unmarked}
use Rattle.dnssec_zone.proofs.keys.Keys.unmark.Goals as goal

walk : (c : goal.After-recount) → IsWalked (λ k. after_early_end c.args.roll
    (is_set c.args.olds.now k.key_tag) (is_set c.args.news.now k.key_tag) k)
    c.self.inside.map c.retain.new.self
walk c = retained _ (λ k v b w f t. search rules) c.retain.ensures.filtered

pub returns : goal.returns
returns c = get-walked (walk c) c.self.view_is

pub invariant_of-self : goal.invariant_of-self
invariant_of-self c = (
  rw c.recount.ensures.tags (tags-walked (walk c) (λ k. kept_unmarked c.args.roll _ _ k) _
      c.self.invariant.0),
  c.recount.ensures.counts,
  c.recount.ensures.waits _,
  countable-kept _ _ c.retain.ensures.was_unique c.retain.ensures.unique (walk c)
      c.self.invariant.3,
)
