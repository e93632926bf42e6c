-- The marks, the new phase and what is listed are what a start changes.
use Rattle.std.proofs.Common.{◌≡◌, None, refl, ap, subst, sym, ◌∙◌}
use Rattle.dnssec_zone.specs.Inner.Entries.{entries_at_start, lists_of}
use Rattle.dnssec_zone.specs.{Lists.with_listed, Lists.listed_at_start, Start.texts, Wait.barred_by}
use Rattle.dnssec_keyset.specs.Step.{start_refusal, reply_list, Actions, StartRoll}
use Rattle.dnssec_zone.proofs.Starts.{passed}
use Rattle.dnssec_keyset.proofs.{Allowed.refused-step}
use Rattle.dnssec_keyset.proofs.Listing.{Listing, started, started-keys}
use Rattle.dnssec_keyset.{specs.contracts.set.KeySet.the_view, proofs.Allowed.accepted-step}
use Rattle.dnssec_keyset.proofs.set.KeySet.start_roll.Goals as goal

-- no cause stands
clear : (c : goal.After-mark-2) → start_refusal c.args.rolltype c.args.self.now
    (texts c.args.old.now) (texts c.args.new.now) ≡ None
clear c = passed _ _ c.in_ok-check_start.ensures

listing : (c : goal.After-mark-2) → Listing c.mark-2.new.self
    (entries_at_start c.self.inside.keys c.args.rolltype (texts c.args.old.now)
    (texts c.args.new.now) c.self.inside.lists.entries.items)
    (with_listed (lists_of c.self.inside.keys c.self.inside.lists.entries.items) c.args.rolltype
    (listed_at_start c.self.inside.keys (texts c.args.old.now) (texts c.args.new.now)))
listing c = started (the_view c.self.inside) c.self.invariant _ _ c.args.rolltype
    (texts c.args.old.now) (texts c.args.new.now) c.args.now.now c.mark.ensures c.mark-2.ensures
    (subst (λ set. start_refusal c.args.rolltype set (texts c.args.old.now)
    (texts c.args.new.now) ≡ None) (sym c.self.view_is) (clear c))

pub invariant_of-self-2 : goal.invariant_of-self-2
invariant_of-self-2 c = rw (c.start.ensures, c.in_ok-make_room.ensures.same) (listing c).0

pub returns : goal.returns
returns c = accepted-step c.args.self.now _
    (StartRoll c.args.rolltype (texts c.args.old.now) (texts c.args.new.now) c.args.now.now) _
    (ap barred_by (clear c))
    (ap Actions (c.in_ok-actions.ensures.items ∙ c.column.ensures.asks))
    (rw (← c.self.view_is) record {
      name = refl;
      rolls = c.in_ok-put_in.ensures.ok;
      lists = rw (c.start.ensures, c.in_ok-make_room.ensures.same) (listing c).1;
      keys = started-keys (the_view c.self.inside) c.self.invariant _ _ c.args.rolltype
          (texts c.args.old.now) (texts c.args.new.now) c.args.now.now c.mark.ensures
          c.mark-2.ensures;
    })

pub returns-in_err-check_start : goal.returns-in_err-check_start
returns-in_err-check_start c =
    refused-step (Unit {0}) reply_list (λ x. refl) c.args.self.now c.args.self.now
    (StartRoll c.args.rolltype (texts c.args.old.now) (texts c.args.new.now) c.args.now.now)
    (start_refusal c.args.rolltype c.args.self.now (texts c.args.old.now) (texts c.args.new.now))
    _ c.from_residual.result refl c.in_err-check_start.ensures refl c.from_residual.ensures.1
