-- What flags and stamps a key may have in each phase, by the tables; the phase of a side and those
-- of its rolls, before and after a call: for all laws of whole rolls.
use Rattle.std.proofs.Common.{◌≡◌, Bool, true, false, not, ◌&&◌, ◌||◌, ℕ, Option, None, Some, arith}
use Rattle.std.{proofs.lemmas.Bool.and_parts, specs.Prelude.is_some}
use Rattle.dnssec_key.specs.declared.roll.RollState.TheVariants.{Propagation2, CacheExpire2, Done}
use Rattle.dnssec_key.specs.declared.roll.RollState.TheVariants.{Propagation1, CacheExpire1}
use Rattle.dnssec_key.specs.declared.roll.Half.{Half}
use Rattle.dnssec_key.specs.declared.roll.Half.TheVariants.{First, Second}
use Rattle.dnssec_key.specs.RollTable.{half_of, after_expiry, column}
use Rattle.dnssec_key.specs.RollTable.{cache_expire}
use Rattle.dnssec_key.specs.declared.roll.RollType.TheVariants.{KskDoubleDsRoll}
use Rattle.dnssec_key.specs.declared.roll.RollType.TheVariants.{ZskDoubleSignatureRoll}
use Rattle.dnssec_key.specs.declared.roll.RollType.TheVariants.{AlgorithmRoll}
use Rattle.dnssec_key.specs.declared.kind.KeyType.TheVariants.{Ksk, Zsk, Csk, Include}
use Rattle.dnssec_key.specs.State.{Flags, kept_present, kept_at_parent, old_present, is_kept}
use Rattle.dnssec_key.specs.declared.roll.{RollState.RollState, RollType.RollType}
use Rattle.dnssec_key.specs.{declared.kind.KeyType.KeyType, Key.KeyParts, Key.all_states}
use Rattle.dnssec_zone.proofs.Flags.{SideOf, Keys, Zone, affects, started, ended, Stage, Quiet}
use Rattle.dnssec_zone.proofs.Flags.{Early, Late, flags_fit, may_start, idle-fits, unseen-fits}
use Rattle.dnssec_zone.proofs.Tests.{◌⇒◌}
use Rattle.dnssec_zone.specs.Rolls.{phase_of, same_roll}
use Rattle.dnssec_keyset.specs.KeySet.{KeySetParts}
use Rattle.dnssec_run.specs.WholeRolls.{each_role, is_settled_ksk, is_settled_zsk, propagation}
use Rattle.dnssec_run.proofs.Chain.Tables.{written, Stamp, Visible, DsVisible, read, checked}
use Rattle.dnssec_run.proofs.Chain.{Tale.stamp_of, Facts.sees, Rolls.same-same}

-- how far a side is in its roll, if any
pub data Phase : Type 0 where
  Idle : Phase
  Spreading : Half → RollType → Phase
  Expiring : Half → RollType → Phase

abbrev pub at_phase : RollType → RollState → Phase
at_phase r Propagation1 = Spreading First r
at_phase r (CacheExpire1 t) = Expiring First r
at_phase r Propagation2 = Spreading Second r
at_phase r (CacheExpire2 t) = Expiring Second r
at_phase r Done = Idle

abbrev pub stage_in : Phase → Stage
stage_in Idle = Quiet
stage_in (Spreading First r) = Early r
stage_in (Spreading Second r) = Late r
stage_in (Expiring First r) = Early r
stage_in (Expiring Second r) = Late r

-- ---- what is asked of a key, by its flags and by which stamps are there

-- the stamps of a KSK that a later wait of a KSK roll may read
abbrev pub ksk_dated : Phase → Flags → Bool → Bool → Bool
ksk_dated Idle s v d = s.present ⇒ (v && d)
ksk_dated (Spreading Second KskDoubleDsRoll) s v d = kept_at_parent s ⇒ d
ksk_dated (Expiring Second KskDoubleDsRoll) s v d = kept_at_parent s ⇒ d
ksk_dated (Spreading Second r) s v d = (old_present s ⇒ (v && d)) && (kept_present s ⇒ v)
ksk_dated (Expiring Second r) s v d = s.present ⇒ (v && d)
ksk_dated _ s v d = (s.present && s.at_parent) ⇒ (v && d)

-- a wait that checks the key finds its stamp
abbrev pub can_read : RollType → Half → KeyType → (Stamp → Bool) → Bool
can_read r half k has = checked r half k ⇒ has (read r half)

-- the stamps that the coming wait reads; the second wait of an algorithm roll reads only KSK roles
abbrev pub ready : SideOf → Phase → KeyType → (Stamp → Bool) → Bool
ready Zone (Expiring Second AlgorithmRoll) k has = true
ready sd (Expiring First ZskDoubleSignatureRoll) k has =
    can_read ZskDoubleSignatureRoll First k has && can_read ZskDoubleSignatureRoll Second k has
ready sd (Spreading Second ZskDoubleSignatureRoll) k has =
    can_read ZskDoubleSignatureRoll Second k has
ready sd (Expiring half r) k has = can_read r half k has
ready sd _ k has = true

-- what a side asks besides: a KSK's stamps, and that no ZSK role has a DS
abbrev pub besides : SideOf → Phase → KeyType → (Stamp → Bool) → Bool
besides Keys ph (Ksk s) has = ksk_dated ph s (has Visible) (has DsVisible)
besides Zone ph (Zsk s) has = not s.at_parent
besides Zone ph (Csk s t) has = not t.at_parent
besides _ _ _ _ = true

-- a key is in order on a side, or the side doesn't see it
abbrev pub orderly : SideOf → Phase → KeyType → (Stamp → Bool) → Bool
orderly sd ph k has = sees sd k
    ⇒ (flags_fit sd (stage_in ph) k && (ready sd ph k has && besides sd ph k has))

-- in a roll's first phase it is in order after an early end too, by whether it was listed as old
-- and as new
abbrev pub can_end : SideOf → Phase → Bool × Bool → KeyType → (Stamp → Bool) → Bool
can_end sd (Spreading First r) listed k has = orderly sd Idle (ended r listed.0 listed.1 k) has
can_end sd _ listed k has = true

-- both
abbrev pub sound : SideOf → Phase → Bool × Bool → KeyType → (Stamp → Bool) → Bool
sound sd ph listed k has = orderly sd ph k has && can_end sd ph listed k has

-- which stamps a key has
abbrev pub dates : KeyParts → Stamp → Bool
dates k s = is_some (stamp_of s k)

abbrev pub in_order : SideOf → Phase → KeyParts → Bool
in_order sd ph k = orderly sd ph k.keytype (dates k)

-- ---- each call keeps it

-- a start; an early end undoes it: what was old already stays so
pub start_sound : (sd : SideOf) (r : RollType) (o i : Bool) (k : KeyType) (has : Stamp → Bool)
    → affects sd r ≡ true → may_start r o i k ≡ true
    → ((sd : SideOf) → affects sd r ≡ true → orderly sd Idle k has ≡ true)
    → sound sd (Spreading First r) (o && all_states is_kept k, i) (started r o i k) has ≡ true
unfolding column
start_sound sd r o i k has own may fit =
    let keys = fit Keys in let zone = fit Zone in grind (arith, and_parts)

-- the reports and the waits
pub half_orderly : (sd : SideOf) (r : RollType) (half : Half) (k : KeyType) (has : Stamp → Bool)
    → affects sd r ≡ true → (orderly sd (Spreading half r) k has ≡ true
    → orderly sd (Expiring half r) k (λ s. written s r half k || has s) ≡ true)
    × (orderly sd (Expiring half r) k has ≡ true
    → orderly sd (at_phase r (after_expiry half)) ((half_of r half).moves k) has ≡ true)
unfolding column
half_orderly sd r half (Ksk s) has own =
    (λ e. grind (arith, and_parts), λ e. grind (arith, and_parts))
half_orderly sd r half (Zsk s) has own =
    (λ e. grind (arith, and_parts), λ e. grind (arith, and_parts))
half_orderly sd r half (Csk s t) has own =
    (λ e. grind (arith, and_parts), λ e. grind (arith, and_parts))
half_orderly sd r half (Include s) has own = (λ e. grind arith, λ e. grind arith)

pub ends-expired : (sd : SideOf) (r : RollType) (half : Half) (listed : Bool × Bool) (k : KeyType)
    (has : Stamp → Bool) → can_end sd (at_phase r (after_expiry half)) listed k has ≡ true
ends-expired sd r half listed k has = grind arith

-- ---- keys that the side doesn't see: those in no use, and those without its role

unseen_ended : (sd : SideOf) (r : RollType) (o i : Bool) (k : KeyType) → not (sees sd k) ≡ true
    → sees sd (ended r o i k) ≡ false
unfolding column
unseen_ended sd r o i k e = grind (arith, and_parts)

pub unseen_sound : (sd : SideOf) (ph : Phase) (listed : Bool × Bool) (k : KeyType)
    (has : Stamp → Bool) → sees sd k ≡ false → sound sd ph listed k has ≡ true
unseen_sound sd ph listed k has e = grind (arith, unseen_ended)

-- the flags of a key in order
pub fits_of : (sd : SideOf) (ph : Phase) (k : KeyType) (has : Stamp → Bool)
    → orderly sd ph k has ≡ true → flags_fit sd (stage_in ph) k ≡ true
fits_of sd ph k has e = grind (arith, and_parts, idle-fits, unseen-fits)

-- ---- what it gives

-- between the rolls it is settled
pub settled_by : (k : KeyType) (has : Stamp → Bool) → orderly Keys Idle k has ≡ true
    → orderly Zone Idle k has ≡ true → each_role is_settled_ksk is_settled_zsk k ≡ true
unfolding column
settled_by k has keys zone = grind (arith, and_parts)

-- a key that a wait checks is on a side of its roll, and has the stamp
pub stamp_there : (r : RollType) (half : Half) (k : KeyType) (has : Stamp → Bool)
    → checked r half k ≡ true
    → ((sd : SideOf) → affects sd r ≡ true → orderly sd (Expiring half r) k has ≡ true)
    → has (read r half) ≡ true
unfolding column
stamp_there r half k has check fit =
    let keys = fit Keys in let zone = fit Zone in grind (arith, and_parts)

-- ---- phases of a side and states of a roll

-- the phase of a side is one of the roll
abbrev pub is_of : Phase → RollType → Bool
is_of Idle r = false
is_of (Spreading _ q) r = same_roll q r
is_of (Expiring _ q) r = same_roll q r

-- it agrees with the state of a roll of the side
abbrev pub PhaseFits : Phase → RollType → Option RollState → Type 0
PhaseFits ph r None = is_of ph r ≡ false
PhaseFits ph r (Some p) = ph ≡ at_phase r p

abbrev pub phase_own : SideOf → Phase → Bool
phase_own sd Idle = true
phase_own sd (Spreading _ r) = affects sd r
phase_own sd (Expiring _ r) = affects sd r

-- the phase of a side whose roll is in this state, or has ended
abbrev pub stands : RollType → Option RollState → Phase
stands r None = Idle
stands r (Some p) = at_phase r p

pub spreading-at : (r : RollType) (half : Half) → at_phase r (propagation half) ≡ Spreading half r
spreading-at r half = grind arith

pub expiring-at : (r : RollType) (half : Half) (ttl : ℕ)
    → at_phase r (cache_expire half ttl) ≡ Expiring half r
expiring-at r half ttl = grind arith

pub idle_is : (sd : SideOf) (ph : Phase) → phase_own sd ph ≡ true
    → ((q : RollType) → affects sd q ≡ true → is_of ph q ≡ false) → ph ≡ Idle
idle_is sd ph own h = grind (arith, same-same, h)

pub none_fits : (r : RollType) (o : Option RollState) (q : RollType) → same_roll r q ≡ false
    → is_of (stands r o) q ≡ false
none_fits r o q d = grind arith

pub here_fits : (r : RollType) (o : Option RollState) → PhaseFits (stands r o) r o
here_fits r o = grind arith

pub own_at : (sd : SideOf) (r : RollType) (o : Option RollState) → affects sd r ≡ true
    → phase_own sd (stands r o) ≡ true
own_at sd r o e = grind arith

abbrev pub roll_now : KeySetParts → RollType → Option RollState
roll_now set r = phase_of set.rolls r
