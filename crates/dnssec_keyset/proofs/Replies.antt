-- What a wait answers at any moment, from the end that the walk over the keys finds.
use Rattle.std.proofs.Common.{arith, ◌≡◌, ℕ, Some, None, refl, subst, sym, ap, ◌∙◌, min}
use Rattle.std.specs.Prelude.{Option, ◌*◌, ◌-◌, IfNone}
use Rattle.dnssec_base.specs.declared.error.Error.TheVariants.{WrongStateForRollOperation}
use Rattle.dnssec_base.specs.declared.error.Error.TheVariants.{WrongKeyState}
use Rattle.dnssec_zone.specs.{Wait.ttl_in, Wait.Barred, Wait.wait_in_phase, Wait.LacksStamp}
use Rattle.dnssec_zone.specs.{Rolls.phase_of, Wait.IsOverFrom}
use Rattle.dnssec_zone.proofs.Tests.{some_or_none}
use Rattle.dnssec_key.specs.declared.roll.Half.{Half}
use Rattle.dnssec_key.specs.declared.roll.Half.TheVariants.{First, Second}
use Rattle.dnssec_key.specs.RollTable.{cache_expire}
use Rattle.dnssec_key.specs.{declared.roll.RollType.RollType, declared.roll.RollState.RollState}
use Rattle.dnssec_base.specs.declared.error.Error.{Error}
use Rattle.dnssec_keyset.specs.{declared.set.KeySet.TheInside.Inside as SetInside}
use Rattle.dnssec_keyset.specs.{contracts.set.KeySet.the_view as set_view, KeySet.KeySetParts}
use Rattle.dnssec_keyset.specs.{WaitEnd.HasNoWait}

-- the phase that a contract sees of a key set is that of its rolls
phase-shown : (roll : RollType) (i : SetInside) (v : KeySetParts) → set_view i ≡ v →
    phase_of v.rolls roll ≡ phase_of i.rolls roll
phase-shown roll i v e = sym (ap (λ (w : KeySetParts). phase_of w.rolls roll) e)

-- ---- the end of a wait

-- so is the TTL that is waited for
pub ttl-shown : (half : Half) (roll : RollType) (i : SetInside) (v : KeySetParts) → set_view i ≡ v
    → (ttl : ℕ) → Some ttl ≡ ttl_in half (phase_of i.rolls roll)
    → ttl_in half (phase_of v.rolls roll) ≡ Some ttl
ttl-shown half roll i v e ttl is = ap (ttl_in half) (phase-shown roll i v e) ∙ sym is

-- and the end of the wait, if it was found
pub end-shown : (half : Half) (roll : RollType) (i : SetInside) (v : KeySetParts) → set_view i ≡ v
    → (ttl end : ℕ) → Some ttl ≡ ttl_in half (phase_of i.rolls roll)
    → IsOverFrom roll half ttl (set_view i).keys end
    → (ttl_in half (phase_of v.rolls roll) ≡ Some ttl) × IsOverFrom roll half ttl v.keys end
end-shown half roll i v e ttl end is over = (
  ttl-shown half roll i v e ttl is,
  subst (λ (w : KeySetParts). IsOverFrom roll half ttl w.keys end) e over,
)

-- what is left, if the moment is given as a duration
pub left-now : (ttl end : ℕ) {now nanos : ℕ} → nanos ≡ now →
    min (ttl * 1_000_000_000) (end - nanos) ≡ min (ttl * 1_000_000_000) (end - now)
left-now ttl end e = ap (λ n. min (ttl * 1_000_000_000) (end - n)) e

-- ---- a roll without a wait

module _ (roll : RollType) (i : SetInside) (set : KeySetParts) (view : set_view i ≡ set) where
  -- it has none if each TTL that it waits for is one for which a key lacks its stamp
  pub no-wait : (p : Option RollState) → phase_of i.rolls roll ≡ p
      → ((half : Half) (ttl : ℕ) → ttl_in half p ≡ Some ttl → LacksStamp roll half ttl set.keys)
      → HasNoWait roll set
  no-wait p is lacks half now =
      rw (phase-shown roll i set view ∙ is)
      (some_or_none (λ t. (cause : Error) × (wait_in_phase roll half t now set.keys
      ≡ Barred cause)) (ttl_in half p) (λ e. (WrongStateForRollOperation, refl))
      (λ ttl e. (WrongKeyState, lacks half ttl e now)))

  -- a phase that waits, if no end of the wait was found
  pub no-end : (half : Half) (ttl : ℕ) → phase_of i.rolls roll ≡ Some (cache_expire half ttl)
      → (end : Option ℕ) → IfNone end (LacksStamp roll half ttl set.keys)
      → IfNone end (HasNoWait roll set)
  no-end half ttl is (Some end) lacks = tt
  no-end half ttl is None lacks = no-wait _ is (λ other t e.
      let same = its other half t ttl e in rw (same.0, same.1) lacks)
    where
      its : (other half : Half) (t ttl : ℕ) → ttl_in other (Some (cache_expire half ttl)) ≡ Some t
          → (other ≡ half) × (t ≡ ttl)
      its other half t ttl e = (grind arith, grind arith)

  -- a phase that doesn't wait
  pub no-wait-phase : (p : Option RollState) → phase_of i.rolls roll ≡ p → ttl_in First p ≡ None
      → ttl_in Second p ≡ None → HasNoWait roll set
  no-wait-phase p is one two = no-wait p is (λ half ttl e. grind (arith, one, two))
