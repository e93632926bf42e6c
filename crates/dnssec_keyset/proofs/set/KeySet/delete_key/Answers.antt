-- The key is gone, and no longer listed.
use Rattle.std.proofs.Common.{ℕ, refl, ap}
use Rattle.dnssec_keyset.proofs.{Listing.removed, Allowed.accepted-step, Allowed.cleared}
use Rattle.dnssec_keyset.proofs.Allowed.{refused-step}
use Rattle.dnssec_keyset.specs.{contracts.set.KeySet.the_view, Step.DeleteKey, Step.reply_done}
use Rattle.dnssec_keyset.proofs.set.KeySet.delete_key.Goals as goal

pub returns-in_err-key_tag : goal.returns-in_err-key_tag
returns-in_err-key_tag c = rw (← c.self.view_is)
    (refused-step ℕ reply_done (λ x. refl) (the_view c.self.inside) _
    (DeleteKey c.args.pubref.now) _ _ c.from_residual.result refl
    c.in_err-key_tag.ensures.reply (ap (λ keys. the_view (record c.self.inside { keys = keys }))
    c.in_err-key_tag.ensures.err) c.from_residual.ensures.1)

pub invariant_of-self-2 : goal.invariant_of-self-2
invariant_of-self-2 c = rw (c.forget.ensures)
    (removed c.self.invariant _ c.args.pubref.now c.in_ok-key_tag.key_tag
    c.in_ok-key_tag.ensures.tag c.in_ok-key_tag.ensures.ok).0

pub returns : goal.returns
returns c =
    let kept = removed c.self.invariant _ c.args.pubref.now c.in_ok-key_tag.key_tag
    c.in_ok-key_tag.ensures.tag c.in_ok-key_tag.ensures.ok in
    rw (← c.self.view_is) (accepted-step (the_view c.self.inside) _
    (DeleteKey c.args.pubref.now) _ (cleared _ _ c.in_ok-key_tag.ensures.reply) refl (record {
      name = refl;
      rolls = refl;
      lists = rw (c.forget.ensures) kept.1;
      keys = c.in_ok-key_tag.ensures.ok;
    }))
