-- The walk over what was listed and the end of the roll are what an early end changes.
use Rattle.std.proofs.Common.{refl, ap, ◌∙◌}
use Rattle.dnssec_keyset.proofs.Listing.{undone, undone-keys}
use Rattle.dnssec_keyset.proofs.Allowed.{accepted-step, cleared}
use Rattle.dnssec_keyset.specs.{Step.Actions, Step.AbortRoll, contracts.set.KeySet.the_view}
use Rattle.dnssec_keyset.proofs.set.KeySet.abort_roll.Goals as goal

pub invariant_of-self : goal.invariant_of-self
invariant_of-self c = rw (c.take_out.ensures.items) (undone c.self.invariant _
    c.args.rolltype c.unmark.ensures).0

pub returns : goal.returns
returns c = rw (← c.self.view_is) (accepted-step (the_view c.self.inside) _
    (AbortRoll c.args.rolltype) _ (cleared _ _ c.in_ok-check_early_end.ensures)
    (ap Actions (c.in_ok-actions.ensures.items ∙ c.asks_at_early_end.ensures))
    (record {
      name = refl;
      rolls = c.take_out-2.ensures;
      lists = rw (c.take_out.ensures.items) (undone c.self.invariant _ c.args.rolltype
          c.unmark.ensures).1;
      keys = undone-keys c.self.invariant _ c.args.rolltype c.unmark.ensures;
    }))
