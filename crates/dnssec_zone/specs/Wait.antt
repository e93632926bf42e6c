-- When a wait is over, and what bars it until then. A wait checks keys, each by the stamp of the
-- event that it waits on: once the reported TTL has passed since the event, old data is gone from
-- the caches (RFC 6781, section 4.1: data of earlier versions of the zone lives on in caches; RFC
-- 7583, section 3: the interval is a TTL from the event on).
use Rattle.std.specs.Prelude.{ℕ, Option, None, Some, ◌*◌, ◌-◌, Bool, ◌&&◌, is_none, if◌then◌else◌}
use Rattle.std.specs.Prelude.{max, map, nat_eq, ◌≡◌, ◌≤◌, ◌<◌, min}
use Rattle.std.specs.Option.{option_map_or}
use Rattle.std.specs.List.{fold}
use Rattle.std.specs.FinMap.{values}
use Rattle.dnssec_base.specs.Stamps.{stamp_named}
use Rattle.dnssec_base.specs.declared.error.Error.{Error}
use Rattle.dnssec_base.specs.declared.error.Error.TheVariants.{WrongKeyState}
use Rattle.dnssec_base.specs.declared.error.Error.TheVariants.{WrongStateForRollOperation}
use Rattle.dnssec_key.specs.declared.roll.RollState.{RollState}
use Rattle.dnssec_key.specs.declared.roll.RollState.TheVariants.{CacheExpire1, CacheExpire2}
use Rattle.dnssec_key.specs.declared.roll.Half.{Half}
use Rattle.dnssec_key.specs.declared.roll.Half.TheVariants.{First, Second}
use Rattle.dnssec_key.specs.RollTable.{half_of}
use Rattle.dnssec_key.specs.declared.roll.RollType.{RollType}
use Rattle.dnssec_key.specs.Key.{KeyParts}
use Rattle.dnssec_zone.specs.Keys.{Keys, some_key}

-- the TTL that this half of a roll waits for; it has one only in its phase of waiting
abbrev pub ttl_in : Half → Option RollState → Option ℕ
ttl_in First (Some (CacheExpire1 ttl)) = Some ttl
ttl_in Second (Some (CacheExpire2 ttl)) = Some ttl
ttl_in half _ = None

-- the stamp that the wait reads of a key
abbrev pub stamp_read : RollType → Half → KeyParts → Option ℕ
stamp_read roll half k = stamp_named (half_of roll half).reads k.timestamps

-- the nanoseconds left of a wait of ttl seconds since a stamp; before the stamp, all of them
abbrev pub left_since : ℕ → ℕ → ℕ → ℕ
left_since ttl now stamp = ttl * 1_000_000_000 - (now - stamp)

-- the wait checks this key, and the key lacks the stamp that the wait reads
abbrev pub lacks_stamp : RollType → Half → KeyParts → Bool
lacks_stamp roll half k =
    (half_of roll half).checks k.keytype && is_none (stamp_read roll half k)

-- the nanoseconds left for a key; 0 for one that the wait doesn't check. It is also 0 for a key
-- that lacks its stamp, but that bars the wait before any time is asked for.
abbrev pub time_left : RollType → Half → ℕ → ℕ → KeyParts → ℕ
time_left roll half ttl now k =
    if (half_of roll half).checks k.keytype
    then option_map_or (left_since ttl now) (stamp_read roll half k) 0
    else 0

-- the longest that is left for a key of the set
abbrev pub longest_left : RollType → Half → ℕ → ℕ → Keys → ℕ
longest_left roll half ttl now keys = fold max 0 (map (time_left roll half ttl now) (values keys))

-- ---- what bars a call, or clears it

-- whether a call may be made: barred by a cause; too early by so many nanoseconds, which is so only
-- for a wait; or clear
pub data Clearance : Type 0 where
  Barred : Error → Clearance
  Early : ℕ → Clearance
  Clear : Clearance

-- barred by the cause, or clear if there is none
abbrev pub barred_by : Option Error → Clearance
barred_by None = Clear
barred_by (Some cause) = Barred cause

-- too early by what is left, or clear if nothing is
abbrev pub early_by : ℕ → Clearance
early_by left = if nat_eq left 0 then Clear else Early left

-- a wait, by the TTL that it waits for: barred if its phase has none, or if some key lacks its
-- stamp; else too early by the longest time that is left for a key
abbrev pub wait_in_phase : RollType → Half → Option ℕ → ℕ → Keys → Clearance
wait_in_phase roll half None now keys = Barred WrongStateForRollOperation
wait_in_phase roll half (Some ttl) now keys =
    if some_key (lacks_stamp roll half) keys then Barred WrongKeyState
    else early_by (longest_left roll half ttl now keys)

-- ---- the moment from which a wait is over

-- A wait of ttl seconds is over from `end` on. Before, its answer says what is left until then, but
-- at most the TTL; the TTL is said if now lies before the event. (Of a TTL of 0 nothing is ever
-- left, and `end` is 0.)
pub record IsOverFrom (roll : RollType) (half : Half) (ttl : ℕ) (keys : Keys) (end : ℕ) : Type 0
  where
    pub early : (now : ℕ) → now < end →
        wait_in_phase roll half (Some ttl) now keys ≡ Early (min (ttl * 1_000_000_000) (end - now))
    pub over : (now : ℕ) → end ≤ now → wait_in_phase roll half (Some ttl) now keys ≡ Clear

-- a checked key lacks its stamp, and each wait is refused for it
abbrev pub LacksStamp : RollType → Half → ℕ → Keys → Type 0
LacksStamp roll half ttl keys =
    (now : ℕ) → wait_in_phase roll half (Some ttl) now keys ≡ Barred WrongKeyState
