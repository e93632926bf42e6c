-- The rolls of a status: those in progress, and those that were ended early.
use Rattle.std.specs.Prelude.{◌≡◌, ℕ, ◌+◌, ◌/◌, Bool, true, false, if◌then◌else◌, List, []}
use Rattle.std.specs.Prelude.{◌∷◌, ◌++◌, map, Option, Some, None, codes, decimal, nat_le}
use Rattle.std.specs.List.{All, flat_map, list_any}
use Rattle.dnssec_key.specs.declared.roll.Action.{Action}
use Rattle.dnssec_key.specs.declared.roll.Action.TheVariants.{UpdateDsRrset}
use Rattle.dnssec_key.specs.declared.roll.RollType.{RollType}
use Rattle.dnssec_key.specs.declared.roll.RollState.{RollState}
use Rattle.dnssec_key.specs.declared.roll.RollState.TheVariants.{Propagation1, CacheExpire1}
use Rattle.dnssec_key.specs.declared.roll.RollState.TheVariants.{Propagation2, CacheExpire2, Done}
use Rattle.dnssec_key.specs.RollTable.{actions_of, column}
use Rattle.dnssec_zone.specs.Rolls.{all_rolls, phase_of}
use Rattle.dnssec_keyset.specs.KeySet.{KeySetParts}
use Rattle.dnssec_keyset.specs.WaitEnd.{SaysEnd}
use Rattle.dnssec_keyset.specs.declared.wait.WaitEnd.{WaitEnd}
use Rattle.dnssec_keyset.specs.declared.wait.WaitEnd.TheVariants.{At, PastTime}
use Rattle.dnssec_status.specs.Json.{array_json}
use Rattle.dnssec_status.specs.Names.{action_json, roll_json}
use Rattle.dnssec_status.specs.declared.rolls.RollInProgress.{RollInProgress}

-- ---- which rolls are in progress

-- a roll with its phase, if it is in progress
unfoldable pub with_its_phase : RollType → Option RollState → List (RollType × RollState)
with_its_phase roll None = []
with_its_phase roll (Some phase) = (roll, phase) ∷ []

-- the rolls in progress, in the order of their kinds
abbrev pub rolls_in_progress : KeySetParts → List (RollType × RollState)
rolls_in_progress set = flat_map (λ roll. with_its_phase roll (phase_of set.rolls roll)) all_rolls

-- a roll of a status, and its phase
abbrev pub phase_pair : RollInProgress → RollType × RollState
phase_pair g = (g.roll, g.phase)

-- these are all the rolls in progress, each with the end of its wait
pub record AreGoing (set : KeySetParts) (rolls : List RollInProgress) : Type 0 where
  pub all : map phase_pair rolls ≡ rolls_in_progress set
  pub ends : All (λ (g : RollInProgress). SaysEnd g.roll set g.end) rolls

-- ---- what is said of each

-- its phase, the TTL of its report, and the call that leaves the phase
abbrev pub phase_json : RollState → List ℕ
phase_json Propagation1 =
    codes ",\"phase\":\"propagation1\",\"ttl\":null,\"next\":\"report1\""
phase_json (CacheExpire1 ttl) =
    codes ",\"phase\":\"cache-expire1\",\"ttl\":" ++ decimal ttl ++ codes ",\"next\":\"wait1\""
phase_json Propagation2 =
    codes ",\"phase\":\"propagation2\",\"ttl\":null,\"next\":\"report2\""
phase_json (CacheExpire2 ttl) =
    codes ",\"phase\":\"cache-expire2\",\"ttl\":" ++ decimal ttl ++ codes ",\"next\":\"wait2\""
phase_json Done = codes ",\"phase\":\"done\",\"ttl\":null,\"next\":\"done\""

-- the first whole second that is not before a moment
abbrev pub second_from : ℕ → ℕ
second_from moment = (moment + 999_999_999) / 1_000_000_000

-- a second, if a call can name it: the last one is 2 ^ 64 - 1
unfoldable pub second_json : ℕ → List ℕ
second_json second =
    if nat_le second 18_446_744_073_709_551_615 then decimal second else codes "\"past-time\""

-- the first whole second from which its wait is accepted
unfoldable pub end_json : Option WaitEnd → List ℕ
end_json None = codes "null"
end_json (Some (At moment)) = second_json (second_from moment)
end_json (Some PastTime) = codes "\"past-time\""

-- it is an update of the DS set, which only the parent can publish
abbrev pub is_for_parent : Action → Bool
is_for_parent UpdateDsRrset = true
is_for_parent _ = false

-- for whom it waits: for the caches, or for the one who does what is due, the parent or you
unfoldable pub waits_for : RollState → List Action → List ℕ
waits_for (CacheExpire1 ttl) due = codes "\"caches\""
waits_for (CacheExpire2 ttl) due = codes "\"caches\""
waits_for _ due = if list_any is_for_parent due then codes "\"parent\"" else codes "\"you\""

-- a roll in this phase, whose wait ends then, with the actions that are due
unfoldable pub parts_json : RollType → RollState → Option WaitEnd → List Action → List ℕ
parts_json roll phase end due =
    codes "{\"roll\":" ++ roll_json roll ++ phase_json phase
    ++ codes ",\"not_before\":" ++ end_json end ++ codes ",\"waits_for\":" ++ waits_for phase due
    ++ codes ",\"due\":" ++ array_json action_json due ++ codes "}"

-- a roll in progress
unfoldable pub going_json : RollInProgress → List ℕ
going_json g = parts_json g.roll g.phase g.end (actions_of g.roll g.phase)

-- a roll that was ended early, with what its end asked for
unfoldable pub ended_json : RollType → List ℕ
ended_json roll =
    codes "{\"roll\":" ++ roll_json roll ++ codes ",\"asked\":"
    ++ array_json action_json (column roll).asks_early ++ codes "}"
