-- What holds of a key set after any calls, and of calls on different sides (RFC 6781, section 3.1:
-- KSKs and ZSKs are rolled independently of each other).
use Rattle.std.specs.Prelude.{Bool, is_some, ◌≡◌, true, ◌⊎◌, Option, None, Some, ℕ, false, List}
use Rattle.std.specs.FinMap.{get}
use Rattle.dnssec_key.specs.declared.roll.RollType.{RollType}
use Rattle.dnssec_key.specs.Key.{KeyParts}
use Rattle.dnssec_zone.specs.Rolls.{Rolls, phase_of, same_roll}
use Rattle.dnssec_zone.specs.Start.{together, lists_kind, side_of}
use Rattle.dnssec_keyset.specs.Step.{Call, StartRoll, Report, Wait, RollDone, AbortRoll, Reply}
use Rattle.dnssec_keyset.specs.Step.{Step}
use Rattle.dnssec_keyset.specs.KeySet.{KeySetParts}

-- the roll is in progress
abbrev pub in_progress : Rolls → RollType → Bool
in_progress rolls roll = is_some (phase_of rolls roll)

-- of two rolls in progress one changes only KSKs, the other only ZSKs
abbrev pub RollsTogether : Rolls → Type 0
RollsTogether rolls = (a b : RollType) → in_progress rolls a ≡ true → in_progress rolls b ≡ true →
    (same_roll a b ≡ true) ⊎ (together a b ≡ true)

-- the roll that a call is on, if any
abbrev pub roll_of : Call → Option RollType
roll_of (StartRoll roll olds news now) = Some roll
roll_of (Report roll half ttl now) = Some roll
roll_of (Wait roll half now) = Some roll
roll_of (RollDone roll) = Some roll
roll_of (AbortRoll roll) = Some roll
roll_of _ = None

-- a call on a roll leaves every key as it was whose kind the roll doesn't change
abbrev pub LeavesOthers : KeySetParts → Call → KeySetParts → Type 0
LeavesOthers old call new = (roll : RollType) (q : List ℕ) (k : KeyParts) →
    roll_of call ≡ Some roll →
    get old.keys q ≡ Some k → lists_kind (side_of roll) k.keytype ≡ false → get new.keys q ≡ Some k

-- two calls on rolls that go together
pub record AreApart (first second : Call) : Type 0 where
  pub roll_first : RollType
  pub roll_second : RollType
  pub first_is : roll_of first ≡ Some roll_first
  pub second_is : roll_of second ≡ Some roll_second
  pub apart : together roll_first roll_second ≡ true

-- in the other order the calls reply the same, and end in the same set
pub record MayBeExchanged (before after : KeySetParts) (first second : Call)
    (reply_first reply_second : Reply) : Type 0 where
  pub between : KeySetParts
  pub second_step : Step before second reply_second between
  pub first_step : Step between first reply_first after
