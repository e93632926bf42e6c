-- When the wait of a roll is over: what a wait at any moment is answered says it. So a tool that
-- sleeps until then asks neither too early nor later than it must (RFC 7583, section 3: the
-- interval is a TTL from the event on).
use Rattle.std.specs.Prelude.{◌≡◌, ℕ, Some, ◌*◌, ◌^◌, ◌≤◌, Option, None}
use Rattle.dnssec_base.specs.declared.error.Error.{Error}
use Rattle.dnssec_key.specs.declared.roll.RollType.{RollType}
use Rattle.dnssec_key.specs.declared.roll.Half.{Half}
use Rattle.dnssec_zone.specs.Rolls.{phase_of}
use Rattle.dnssec_zone.specs.Wait.{ttl_in, IsOverFrom, Barred}
use Rattle.dnssec_keyset.specs.KeySet.{KeySetParts}
use Rattle.dnssec_keyset.specs.Step.{wait_clearance}
use Rattle.dnssec_keyset.specs.declared.wait.WaitEnd.{WaitEnd}
use Rattle.dnssec_keyset.specs.declared.wait.WaitEnd.TheVariants.{At, PastTime}

-- the wait of a roll, in its phase, is over from `end` on
abbrev pub EndsAt : RollType → KeySetParts → ℕ → Type 0
EndsAt roll set end =
    (half : Half) × (ttl : ℕ) × (ttl_in half (phase_of set.rolls roll) ≡ Some ttl)
    × IsOverFrom roll half ttl set.keys end

-- each wait of a roll is refused, for the phase or for a missing stamp
abbrev pub HasNoWait : RollType → KeySetParts → Type 0
HasNoWait roll set =
    (half : Half) (now : ℕ) → (cause : Error) × (wait_clearance roll half now set ≡ Barred cause)

-- what is answered for the end of a roll's wait; a moment has less than 2 ^ 64 seconds
abbrev pub SaysEnd : RollType → KeySetParts → Option WaitEnd → Type 0
SaysEnd roll set None = HasNoWait roll set
SaysEnd roll set (Some (At moment)) = EndsAt roll set moment
SaysEnd roll set (Some PastTime) =
    (end : ℕ) × (2 ^ 64 * 1_000_000_000 ≤ end) × EndsAt roll set end
