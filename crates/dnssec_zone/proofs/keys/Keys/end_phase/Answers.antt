-- The walk changes each key as the end of a phase does. If a count may change, all are counted.
use Rattle.std.proofs.Common.{rules}
use Rattle.dnssec_key.specs.RollTable.{after_end}
use Rattle.dnssec_zone.proofs.Counted.{counts-ended, countable-kept}
use Rattle.dnssec_zone.proofs.Walks.{IsWalked, get-walked, retained}
use Rattle.dnssec_zone.proofs.Tags.{kept_ended, tags-walked}
use Rattle.dnssec_zone.proofs.keys.Keys.end_phase.Goals as goal

walk : (c : goal.After-end_phase) → IsWalked (after_end c.args.end c.args.roll c.args.half
    c.args.now) c.self.inside.map c.retain.new.self
walk c = retained _ (λ k v b w f t. search rules) c.retain.ensures.filtered

pub returns : goal.returns
returns c = get-walked (walk c) c.self.view_is

pub invariant_of-self : goal.invariant_of-self
invariant_of-self c = (
  rw c.end_phase.ensures.tags (tags-walked (walk c) (λ k. kept_ended c.args.end _ _ _ k) _
      c.self.invariant.0),
  counts-ended _ _ _ _ _ _ _ _ c.retain.ensures.was_unique c.retain.ensures.unique (walk c)
      c.self.invariant.1 c.end_phase.ensures.moved c.end_phase.ensures.kept,
  c.end_phase.ensures.waits,
  countable-kept _ _ c.retain.ensures.was_unique c.retain.ensures.unique (walk c)
      c.self.invariant.3,
)
