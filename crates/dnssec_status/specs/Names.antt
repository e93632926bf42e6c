-- The names of rolls and actions in a status.
use Rattle.std.specs.Prelude.{ℕ, List, ◌++◌, codes}
use Rattle.dnssec_key.specs.declared.roll.Action.{Action}
use Rattle.dnssec_key.specs.declared.roll.RollType.{RollType}
use Rattle.dnssec_key.specs.Texts.{roll_name}
use Rattle.dnssec_record.specs.Output.{action_name}

-- a roll
unfoldable pub roll_json : RollType → List ℕ
roll_json roll = codes "\"" ++ roll_name roll ++ codes "\""

-- an action
abbrev pub action_json : Action → List ℕ
action_json action = codes "\"" ++ action_name action ++ codes "\""
