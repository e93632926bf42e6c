-- A call on a roll, as a change of each key and of the phase and the lists of its roll.
use Rattle.std.proofs.Common.{arith, ◌≡◌, ℕ, Bool, List, Some, None, refl, sym, subst}
use Rattle.std.specs.Prelude.{Option, IfSome}
use Rattle.dnssec_key.specs.declared.roll.Half.{Half}
use Rattle.dnssec_key.specs.declared.roll.Half.TheVariants.{Second}
use Rattle.dnssec_key.specs.RollTable.{after_start, after_report, after_wait}
use Rattle.dnssec_key.specs.RollTable.{after_expiry, after_early_end, cache_expire}
use Rattle.dnssec_key.specs.declared.roll.{RollType.RollType, RollState.RollState}
use Rattle.dnssec_key.specs.{declared.roll.RollState.TheVariants.Propagation1, Key.KeyParts}
use Rattle.dnssec_zone.specs.Lists.{Listed, Lists, listed_by, nothing_listed, with_listed}
use Rattle.dnssec_zone.specs.Lists.{listed_at_start}
use Rattle.dnssec_zone.{specs.Start.is_listed, proofs.Phases.put-same}
use Rattle.dnssec_keyset.specs.Step.{Call, StartRoll, Report, Wait, RollDone, AbortRoll}
use Rattle.dnssec_keyset.specs.{KeySet.KeySetParts, Laws.roll_of}
use Rattle.dnssec_keyset.proofs.Changes.{Changes, MovesOn}

-- the calls on a roll
pub data IsOn (roll : RollType) : Call → Type 0 where
  Starts : (olds news : List (List ℕ)) (now : ℕ) → IsOn roll (StartRoll roll olds news now)
  Reports : (half : Half) (ttl now : ℕ) → IsOn roll (Report roll half ttl now)
  Waits : (half : Half) (now : ℕ) → IsOn roll (Wait roll half now)
  Ends : IsOn roll (RollDone roll)
  EndsEarly : IsOn roll (AbortRoll roll)

pub is-on : (call : Call) (roll : RollType) → roll_of call ≡ Some roll → IsOn roll call
is-on call roll on = subst (λ o. IfSome o (λ r. IsOn r call)) on (at call)
  where
    at : (call : Call) → IfSome (roll_of call) (λ r. IsOn r call)
    at (StartRoll r olds news now) = Starts olds news now
    at (Report r half ttl now) = Reports half ttl now
    at (Wait r half now) = Waits half now
    at (RollDone r) = Ends
    at (AbortRoll r) = EndsEarly
    at _ = tt

-- the key after the call
unfoldable pub key_after : Lists → Call → List ℕ → KeyParts → KeyParts
key_after lists (StartRoll roll olds news now) q k =
    after_start roll now (is_listed olds q) (is_listed news q) k
key_after lists (Report roll half ttl now) q k = after_report roll half now k
key_after lists (Wait roll half now) q k = after_wait roll half now k
key_after lists (AbortRoll roll) q k =
    after_early_end roll (is_listed (listed_by lists roll).olds q)
    (is_listed (listed_by lists roll).news q) k
key_after lists _ q k = k

-- the phase of its roll after the call
unfoldable pub phase_after : Call → Option RollState
phase_after (StartRoll roll olds news now) = Some Propagation1
phase_after (Report roll half ttl now) = Some (cache_expire half ttl)
phase_after (Wait roll half now) = Some (after_expiry half)
phase_after _ = None

-- what is kept of its roll's start after the call
unfoldable pub listed_after : KeySetParts → Call → Listed
listed_after set (StartRoll roll olds news now) = listed_at_start set.keys olds news
listed_after set (Report roll Second ttl now) = listed_by set.lists roll
listed_after set (Wait roll half now) = listed_by set.lists roll
listed_after set (RollDone roll) = listed_by set.lists roll
listed_after set _ = nothing_listed

-- how a call on a roll changes a set
abbrev pub MovesBy : KeySetParts → Call → RollType → KeySetParts → Type 0
MovesBy old call roll new =
    MovesOn old new roll (phase_after call) (with_listed old.lists roll (listed_after old call))
    (key_after old.lists call)

-- what is put in place of itself
put-itself : (l : Lists) (roll : RollType) → with_listed l roll (listed_by l roll) ≡ l
put-itself l roll = put-same l roll (listed_by l roll) refl

-- it is what the call changes
moves-by : (old new : KeySetParts) (call : Call) (roll : RollType) → IsOn roll call
    → Changes old call new ≡ MovesBy old call roll new
unfolding key_after phase_after listed_after
moves-by old new call roll (Reports Second ttl now) = rw (put-itself old.lists roll)
moves-by old new call roll (Waits half now) = rw (put-itself old.lists roll)
moves-by old new call roll Ends = rw (put-itself old.lists roll)
moves-by old new call roll _ = refl

pub moves-on : (old new : KeySetParts) (call : Call) (roll : RollType) → IsOn roll call
    → Changes old call new → MovesBy old call roll new
moves-on old new call roll on h = subst (λ t. t) (moves-by old new call roll on) h

pub moves-back : (old new : KeySetParts) (call : Call) (roll : RollType) → IsOn roll call
    → MovesBy old call roll new → Changes old call new
moves-back old new call roll on h = subst (λ t. t) (sym (moves-by old new call roll on)) h

-- a start keeps the tag of a key
pub kept_started : (roll : RollType) (now : ℕ) (as_old as_new : Bool) (k : KeyParts)
    → (after_start roll now as_old as_new k).key_tag ≡ k.key_tag
kept_started roll now as_old as_new k = grind arith
