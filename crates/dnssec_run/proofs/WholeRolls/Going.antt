-- The keys that a roll lists: by their flags, in each call and at its end; and over one call while
-- it is in progress. For `finishes`.
use Rattle.std.proofs.Common.{None, arith, ◌≡◌, Bool, true, ◌&&◌, refl, ℕ, inl, inr, false, sym}
use Rattle.std.proofs.Common.{◌∙◌, ap, List, Some}
use Rattle.std.proofs.lemmas.Bool.{and_parts, cases_Bool, false_from_ne_true, true≢false}
use Rattle.std.{proofs.lemmas.Option.same_Some, specs.FinMap.get}
use Rattle.dnssec_key.specs.State.{is_active_ksk, is_active_zsk, is_kept, is_old, is_used, is_stale}
use Rattle.dnssec_key.specs.declared.roll.Half.{Half}
use Rattle.dnssec_key.specs.RollTable.{column, half_of}
use Rattle.dnssec_key.specs.declared.roll.{RollType.RollType, RollState.RollState}
use Rattle.dnssec_key.specs.{declared.kind.KeyType.KeyType, Key.all_states, Key.KeyParts}
use Rattle.dnssec_zone.specs.{Rolls.same_roll, Start.lists_kind, Start.side_of}
use Rattle.dnssec_zone.proofs.Flags.{SideOf, Keys, Zone, affects, started, may_start}
use Rattle.dnssec_zone.proofs.Tests.{some_or_none}
use Rattle.dnssec_keyset.specs.{KeySet.KeySetParts, Laws.LeavesOthers, Laws.RollsTogether}
use Rattle.dnssec_keyset.proofs.{Changes.Changes, Laws.same-is}
use Rattle.dnssec_run.proofs.Effects.{adds, came, deleted-stale, deletes, goes, moved_key, phases}
use Rattle.dnssec_run.proofs.Chain.Setters.{harmless, harmless-alike, others-unlisted}
use Rattle.dnssec_run.proofs.{Chain.Tables.Stamp, WholeRolls.Keys.Idle, WholeRolls.Keys.orderly}
use Rattle.dnssec_run.proofs.WholeRolls.Keys.{roll_now}
use Rattle.dnssec_run.{specs.WholeRolls.each_role, proofs.Premise.end_of, proofs.Chain.Facts.other}
use Rattle.dnssec_run.proofs.WholeRolls.{Order.is_calm, Replies.leaves-beside, Replies.start-beside}
use Rattle.dnssec_zone.specs.Wait as waits
use Rattle.dnssec_keyset.specs.Step as keyset

-- ---- the keys that a roll lists

-- each state of a key that the roll may list passes
abbrev pub marked : (KeyType → Bool) → RollType → KeyType → Bool
marked p r k = lists_kind (side_of r) k && p k

-- old in each state
abbrev pub oldly : KeyType → Bool
oldly = all_states is_old

-- brought in by the roll, and not old
abbrev pub newly : KeyType → Bool
newly = all_states (λ s. is_kept s && is_used s)

pub began : (r : RollType) (o i : Bool) (k : KeyType) → may_start r o i k ≡ true
    → (o ≡ true → marked oldly r (started r o i k) ≡ true)
    × (i ≡ true → marked newly r (started r o i k) ≡ true)
unfolding column
began r o i k may = grind (arith, and_parts)

wait_facts : (r : RollType) (half : Half) (k : KeyType)
    → (marked oldly r k ≡ true → marked oldly r ((half_of r half).moves k) ≡ true)
    × (marked newly r k ≡ true → marked newly r ((half_of r half).moves k) ≡ true)
unfolding column
wait_facts r half k = grind (arith, and_parts)

new_stays : (k : KeyType) → newly k ≡ true → all_states is_stale k ≡ false
new_stays k e = grind (arith, and_parts)

-- if the roll is over on its sides
pub over_facts : (r : RollType) (k : KeyType) (has : Stamp → Bool)
    → ((sd : SideOf) → affects sd r ≡ true → orderly sd Idle k has ≡ true)
    → (marked oldly r k ≡ true → all_states is_stale k ≡ true)
    × (marked newly r k ≡ true → each_role is_active_ksk is_active_zsk k ≡ true)
unfolding column
over_facts r k has over = let keys = over Keys in let zone = over Zone in grind (arith, and_parts)

-- ---- one call while the roll is in progress

module _ (roll : RollType) (old new : KeySetParts) (all : RollsTogether old.rolls)
    (x : RollState) (going : roll_now old roll ≡ Some x) where
  -- ---- a marked key that is still there stays so

  module _ (p : KeyType → Bool) (keeps : (half : Half) (k : KeyType) → marked p roll k ≡ true
      → marked p roll ((half_of roll half).moves k) ≡ true) (q : List ℕ) (k j : KeyParts)
      (there : get old.keys q ≡ Some k) (w : marked p roll k.keytype ≡ true)
      (at : get new.keys q ≡ Some j) where
    -- if the call leaves it
    left : get new.keys q ≡ Some k → marked p roll j.keytype ≡ true
    left same = ap (λ (k : KeyParts). marked p roll k.keytype) (same_Some j k (sym at ∙ same)) ∙ w

    stays : (c : keyset.Call) → is_calm old c ≡ true → keyset.clearance old c ≡ waits.Clear
        → LeavesOthers old c new → (end_of c ≡ Some roll → ⊥) → moved_key old c q k ≡ j
        → marked p roll j.keytype ≡ true
    stays (keyset.Set r s) plain v leaves not_end is =
        ap (λ (k : KeyParts). marked p roll k.keytype) (sym is)
        ∙ harmless-alike (marked p roll) false
        (λ k other. ap (λ b. b && p k) (others-unlisted roll k other)) k _
        (harmless old r s plain q k there) ∙ w
    stays (keyset.StartRoll r olds news now) plain v leaves not_end is =
        left (leaves r q k refl there (other r roll k.keytype
        (start-beside old roll x going r olds news now v) (and_parts _ _ w).0))
    stays (keyset.Wait r half now) plain v leaves not_end is =
        elim (cases_Bool (same_roll r roll)) [
          | inl t ↦ ap (λ (k : KeyParts). marked p roll k.keytype) (sym is)
              ∙ ap (λ r. marked p roll ((half_of r half).moves k.keytype)) (same-is r roll t)
              ∙ keeps half k.keytype w
          | inr t ↦ left (leaves-beside old roll x going all new (keyset.Wait r half now) v t
              leaves r refl q k there (and_parts _ _ w).0)
        ]
    stays (keyset.AbortRoll r) plain v leaves not_end is =
        left (leaves-beside old roll x going all new (keyset.AbortRoll r) v
        (false_from_ne_true (same_roll r roll) (λ t. not_end (ap Some (same-is r roll t))))
        leaves r refl q k there (and_parts _ _ w).0)
    stays c plain v leaves not_end is = ap (λ (k : KeyParts). marked p roll k.keytype) (sym is) ∙ w

  module _ (c : keyset.Call) (plain : is_calm old c ≡ true)
      (v : keyset.clearance old c ≡ waits.Clear) (m : Changes old c new)
      (leaves : LeavesOthers old c new) (not_end : end_of c ≡ Some roll → ⊥) (q : List ℕ) where
    -- an old key stays old
    pub old-step : adds c q ≡ false
        → ((k : KeyParts) → get old.keys q ≡ Some k → marked oldly roll k.keytype ≡ true)
        → (j : KeyParts) → get new.keys q ≡ Some j → marked oldly roll j.keytype ≡ true
    old-step apart h j e = elim (came old new c m q j e) [
      | inl a ↦ absurd (true≢false (sym a.0 ∙ apart))
      | inr b ↦ stays oldly (λ half k. (wait_facts roll half k).0) q b.0 j b.1 (h b.0 b.1) e c
          plain v leaves not_end b.2
    ]

    -- a new key is still there, and stays new
    pub new-step : (k : KeyParts) → get old.keys q ≡ Some k → marked newly roll k.keytype ≡ true
        → (j : KeyParts) × (get new.keys q ≡ Some j) × (marked newly roll j.keytype ≡ true)
    new-step k there w =
        let j = moved_key old c q k in
        let at : get new.keys q ≡ Some j = goes old new c v m q k there
        (false_from_ne_true (deletes c q) (λ t. true≢false
        (sym (deleted-stale old c v q k there t) ∙ new_stays k.keytype (and_parts _ _ w).1))) in
        let so = stays newly (λ half k. (wait_facts roll half k).1) q k j there w at c plain v
        leaves not_end refl in
        (j, at, so)

  -- ---- the roll goes on unless it ends

  ends : (c : keyset.Call) → Changes old c new → (end_of c ≡ Some roll → ⊥)
      → roll_now new roll ≡ None → ⊥
  ends c m not_end none = grind (arith, same-is, not_end, phases old new c m roll, going)

  pub still : (c : keyset.Call) → Changes old c new → (end_of c ≡ Some roll → ⊥)
      → (y : RollState) × (roll_now new roll ≡ Some y)
  still c m not_end = some_or_none (λ o. (y : RollState) × (o ≡ Some y)) (roll_now new roll)
      (λ none. absurd (ends c m not_end none)) (λ y there. (y, refl))
