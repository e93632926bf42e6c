-- The call that is said is made, and the calls stay automatic.
use Rattle.std.proofs.Common.{◌≡◌, ◌++◌, ◌∷◌, [], ℕ, List, Some, refl, subst, sym}
use Rattle.dnssec_record.specs.Session.{StandsAfter}
use Rattle.dnssec_run.specs.Moments.{moments_of}
use Rattle.dnssec_run.specs.declared.{call.Call.Call, record.Entry.Entry}
use Rattle.dnssec_policy.specs.Automatic.{Calls.GoesOn, Zone.Advances, Zone.IsAutomaticAfter}
use Rattle.dnssec_policy.specs.Automatic.Zone.{Makes}
use Rattle.dnssec_policy.specs.declared.automatic.zone.Advance.{Advance}
use Rattle.dnssec_policy.specs.declared.automatic.zone.AutomaticZone.{AutomaticZone}
use Rattle.dnssec_policy.{specs.declared.policy.Policy.Policy, proofs.Zone.Grown.one-said}
use Rattle.dnssec_policy.proofs.automatic.zone.AutomaticZone.advance.Goals as goal

-- the zone with what the call leaves, and with its moment
goes-on : (policy : Policy) (moment : ℕ) (old new : AutomaticZone) (made : Advance)
    (name : List ℕ) (calls : List Call) (entries : List Entry) (asked : List ℕ)
    → IsAutomaticAfter name calls entries asked old
    → Makes name calls entries policy moment old (Some made) → new.calls ≡ made.calls
    → ((name : List ℕ) (calls : List Call) (entries : List Entry) (entry : Entry)
    → StandsAfter name calls (entries ++ entry ∷ []) new.calls.session
    → old.moments ≡ moments_of entries → new.moments ≡ moments_of (entries ++ entry ∷ []))
    → new.noted ≡ old.noted
    → Advances name calls entries asked policy moment old new (Some made.reply)
goes-on policy moment old new made name calls entries asked so (call, says, is_made) is times same =
    let on = subst (λ kept. GoesOn name calls entries call kept made.reply) (sym is) is_made in (
      call,
      says,
      one-said name calls entries asked call moment old new made.reply so on
          (times name (calls ++ call ∷ []) entries on.entry on.after.stands so.moments) same policy
          says,
    )

pub returns-in_default-clause-ok : goal.returns-in_default-clause-ok
returns-in_default-clause-ok c = λ name calls entries asked so.
    let none = rw c.in_default.is at c.in_ok-made.ensures in
    (refl, none name calls entries so.after so.highest)

pub returns-clause-ok : goal.returns-clause-ok
returns-clause-ok c = λ name calls entries asked so.
    let some = rw c.in-Some.is at c.in_ok-made.ensures in
    goes-on c.args.policy.now c.args.moment c.args.self.now _ c.in-Some.made name calls entries
    asked so (some name calls entries so.after so.highest) refl
    (λ name calls entries entry stands was.
    c.in_ok-add.ensures.ok entries entry was (c.latest.ensures name calls _ stands)) refl
