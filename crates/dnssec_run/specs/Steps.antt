-- The last steps of the rolls, as they are kept call by call.
use Rattle.std.specs.Prelude.{◌≡◌, ℕ, suc, List, length, Option, None, get_or}
use Rattle.std.specs.Option.{option_map}
use Rattle.dnssec_key.specs.declared.roll.RollType.{RollType}
use Rattle.dnssec_zone.specs.Rolls.{roll_number}
use Rattle.dnssec_run.specs.declared.record.Entry.{Entry}
use Rattle.dnssec_run.specs.declared.running.LastStep.{LastStep}
use Rattle.dnssec_run.specs.declared.running.Steps.{Steps}
use Rattle.dnssec_run.specs.declared.caches.ByKind.{ByKind}
use Rattle.dnssec_run.specs.ByKind.{at_kind}
use Rattle.dnssec_run.specs.Origins.{origin}
use Rattle.dnssec_run.specs.Safe.{SetKind, Ds, Dnskey, ZoneSigners, base_below}

-- the positions at which the sets of the kinds came
abbrev pub Origins : Type 0
Origins = ByKind ℕ

-- the origin of a kind
abbrev pub origin_in : Origins → SetKind → ℕ
origin_in = at_kind

-- the origins of the sets that are there at a position
abbrev pub origins_at : List Entry → ℕ → Origins
origins_at entries n = record {
  ds = origin entries Ds n;
  dnskey = origin entries Dnskey n;
  zone = origin entries ZoneSigners n;
}

-- a step at a position, with the origins of the sets that it left
abbrev pub step_at : List Entry → ℕ → LastStep
step_at entries n = record { at = n; origins = origins_at entries n }

-- the last step of a roll before position n: what a report there counts from
abbrev pub last_step : List Entry → RollType → ℕ → Option LastStep
last_step entries roll n = option_map (step_at entries) (base_below entries roll n)

-- the last step that is kept of a roll
abbrev pub step_of : Steps → RollType → Option LastStep
step_of s roll = get_or s.by_roll (roll_number roll) None

-- and its position
abbrev pub base_of : Steps → RollType → Option ℕ
base_of s roll = option_map (λ (step : LastStep). step.at) (step_of s roll)

-- the steps are those of this record: what the next report of each roll counts from
abbrev pub AreStepsOf : List Entry → Steps → Type 0
AreStepsOf entries steps =
    (roll : RollType) → step_of steps roll ≡ last_step entries roll (suc (length entries))
