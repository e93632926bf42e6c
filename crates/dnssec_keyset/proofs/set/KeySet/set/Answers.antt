-- The key is changed; if a flag was set, it is no longer listed.
use Rattle.std.proofs.Common.{ℕ, true, false, refl, ap, sym, ◌∙◌}
use Rattle.dnssec_key.specs.Setters.{setting_of}
use Rattle.dnssec_keyset.proofs.{Listing.set-forgotten, Listing.set-kept, Allowed.cleared}
use Rattle.dnssec_keyset.{proofs.Allowed.set-step, specs.contracts.set.KeySet.the_view}
use Rattle.dnssec_keyset.{proofs.Allowed.refused-step, specs.Step.Set, specs.Step.reply_done}
use Rattle.dnssec_keyset.proofs.set.KeySet.set.Goals as goal

pub returns-in_err-key_tag : goal.returns-in_err-key_tag
returns-in_err-key_tag c = rw (← c.self.view_is)
    (refused-step ℕ reply_done (λ x. refl) (the_view c.self.inside) _
    (Set c.args.pubref.now (setting_of c.args.setting.now)) _ _ c.from_residual.result refl
    c.in_err-key_tag.ensures.reply (ap (λ keys. the_view (record c.self.inside { keys = keys }))
    c.in_err-key_tag.ensures.err) c.from_residual.ensures.1)

pub invariant_of-self-then-sets_flag : goal.invariant_of-self-then-sets_flag
invariant_of-self-then-sets_flag c = rw (c.forget.ensures)
    (set-forgotten c.self.invariant _ c.args.pubref.now c.in_ok-key_tag.key_tag
    c.in_ok-key_tag.ensures.tag (setting_of c.args.setting.now) c.in_ok-key_tag.ensures.ok).0

pub invariant_of-self-else-sets_flag : goal.invariant_of-self-else-sets_flag
invariant_of-self-else-sets_flag c = (set-kept c.self.invariant c.args.pubref.now
    (setting_of c.args.setting.now) c.in_ok-key_tag.ensures.ok).0

pub returns-then-sets_flag : goal.returns-then-sets_flag
returns-then-sets_flag c = rw (← c.self.view_is)
    (set-step (the_view c.self.inside) c.set.new.self _ c.args.pubref.now
    (setting_of c.args.setting.now) true (sym c.sets_flag.ensures ∙ c.if-sets_flag.true)
    (cleared _ _ c.in_ok-key_tag.ensures.reply) c.in_ok-key_tag.ensures.ok
    (rw (c.forget.ensures)
    (set-forgotten c.self.invariant _ c.args.pubref.now c.in_ok-key_tag.key_tag
    c.in_ok-key_tag.ensures.tag (setting_of c.args.setting.now) c.in_ok-key_tag.ensures.ok).1))

pub returns-else-sets_flag : goal.returns-else-sets_flag
returns-else-sets_flag c = rw (← c.self.view_is)
    (set-step (the_view c.self.inside) c.set.new.self _ c.args.pubref.now
    (setting_of c.args.setting.now) false (sym c.sets_flag.ensures ∙ c.if-sets_flag.false)
    (cleared _ _ c.in_ok-key_tag.ensures.reply) c.in_ok-key_tag.ensures.ok
    (set-kept c.self.invariant c.args.pubref.now (setting_of c.args.setting.now)
    c.in_ok-key_tag.ensures.ok).1)
