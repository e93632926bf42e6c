-- The walk over the keys and the move of the roll are what an accepted wait changes.
use Rattle.std.proofs.Common.{refl, ap, ◌∙◌}
use Rattle.dnssec_key.specs.RollTable.{actions_of}
use Rattle.dnssec_keyset.proofs.{Listing.waited, Allowed.accepted-step, Allowed.over}
use Rattle.dnssec_keyset.specs.Step.{Actions, Wait, wait_clearance}
use Rattle.dnssec_keyset.proofs.set.KeySet.go_on.Goals as goal

pub invariant_of-self : goal.invariant_of-self
invariant_of-self c = (waited c.self.invariant _ c.args.rolltype c.args.half
    c.args.now.now c.end_phase.ensures).0

pub returns : goal.returns
returns c = accepted-step c.args.self.now _
    (Wait c.args.rolltype c.args.half c.args.now.now) _
    (over (wait_clearance c.args.rolltype c.args.half c.args.now.now c.args.self.now) _
    c.in_ok-check_wait.ensures.reply)
    (ap Actions (c.in_ok-actions.ensures.same ∙ c.actions_in.ensures
    ∙ ap (actions_of c.args.rolltype) c.after_expiry.ensures))
    (rw (← c.after_expiry-2.ensures, ← c.in_ok-check_wait.ensures.same, ← c.self.view_is) record {
      name = refl;
      rolls = c.move_to.ensures;
      lists = (waited c.self.invariant _ c.args.rolltype c.args.half c.args.now.now
          c.end_phase.ensures).1;
      keys = c.end_phase.ensures;
    })
