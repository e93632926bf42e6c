-- A call that is said is clear.
use Rattle.std.proofs.lemmas.Bool.{and_parts}
use Rattle.dnssec_key.specs.{Key.all_states, State.is_stale}
use Rattle.std.proofs.Common.{◌≡◌, ℕ, ◌≤◌, Option, None, Some, refl, sym, ap, ◌∙◌, arith}
use Rattle.dnssec_key.specs.declared.roll.{RollState.RollState, RollType.RollType, Half.Half}
use Rattle.dnssec_key.specs.declared.roll.Half.TheVariants.{First, Second}
use Rattle.dnssec_key.specs.RollTable.{cache_expire}
use Rattle.dnssec_zone.specs.{Rolls.phase_of, Refusals.end_refusal, Refusals.report_refusal}
use Rattle.dnssec_zone.specs.Wait.{Clear, ttl_in, wait_in_phase, barred_by}
use Rattle.dnssec_keyset.specs.Step as keyset
use Rattle.dnssec_keyset.specs.WaitEnd.{EndsAt, SaysEnd}
use Rattle.dnssec_keyset.specs.declared.wait.WaitEnd.TheVariants.{At}
use Rattle.dnssec_run.specs.WholeRolls.{propagation}
use Rattle.dnssec_policy.specs.{declared.policy.Policy.Policy, Laws.NextIsAccepted, View.View}
use Rattle.dnssec_policy.proofs.{May.May, Accepted.free, Said.may-next}

-- the half in which a roll waits, and for how long
pub half-is : (o : Option RollState) (half other : Half) (ttl t : ℕ)
    → o ≡ Some (cache_expire half ttl) → ttl_in other o ≡ Some t → (other ≡ half) × (t ≡ ttl)
half-is o First First ttl t is e = (refl, grind (arith, is, e))
half-is o Second Second ttl t is e = (refl, grind (arith, is, e))
half-is o First Second ttl t is e = absurd (grind (arith, is, e))
half-is o Second First ttl t is e = absurd (grind (arith, is, e))

spreads : (half : Half) → report_refusal half (Some (propagation half)) ≡ None
spreads half = grind arith

module _ (policy : Policy) (v : View)
    (says : (roll : RollType) → SaysEnd roll v.set (v.end roll)) where
  over : (roll : RollType) (half : Half) (ttl end : ℕ)
      → phase_of v.set.rolls roll ≡ Some (cache_expire half ttl) → v.end roll ≡ Some (At end)
      → end ≤ v.now → keyset.wait_clearance roll half v.now v.set ≡ Clear
  over roll half ttl end phase is le =
      let ends : EndsAt roll v.set end = rw is at (says roll) in
      let so = half-is (phase_of v.set.rolls roll) half ends.0 ttl ends.1 phase ends.2 in
      by ends.0 ends.1 so.0 so.1 ends.2 (ends.3.over v.now le)
    where
      by : (other : Half) (t : ℕ) → other ≡ half → t ≡ ttl
          → ttl_in other (phase_of v.set.rolls roll) ≡ Some t
          → wait_in_phase roll other (Some t) v.now v.set.keys ≡ Clear
          → keyset.wait_clearance roll half v.now v.set ≡ Clear
      by other t oh ot ttl-is clear =
          ap (λ h. wait_in_phase roll h (ttl_in h (phase_of v.set.rolls roll)) v.now v.set.keys)
          (sym oh)
          ∙ ap (λ o. wait_in_phase roll other o v.now v.set.keys) ttl-is ∙ clear

  clear : (c : keyset.Call) → May policy v c → keyset.clearance v.set c ≡ Clear
  clear (keyset.AddKey reference key) m = absurd m
  clear (keyset.Set reference setting) m = absurd m
  clear (keyset.DeleteKey q) m =
      let stale = (and_parts (all_states is_stale m.0.keytype) _ m.2).0 in
      rw (m.1, stale) refl
  clear (keyset.StartRoll roll olds news now) m = ap barred_by (free policy v roll olds news m.1)
  clear (keyset.Report roll half ttl now) m = ap (λ o. barred_by (report_refusal half o)) m.1
      ∙ ap barred_by (spreads half)
  clear (keyset.Wait roll half now) m =
      ap (λ t. keyset.wait_clearance roll half t v.set) m.0
      ∙ over roll half m.1 m.3 m.2 m.4 m.5
  clear (keyset.RollDone roll) m = ap (λ o. barred_by (end_refusal o)) m.0
  clear (keyset.AbortRoll roll) m = absurd m

pub accepted : NextIsAccepted
accepted policy v call says said = clear policy v says call (may-next policy v call said)
