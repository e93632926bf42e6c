-- The roll that a field names, as the key set reads it.
use Rattle.std.proofs.Common.{◌≡◌, ◌≢◌, ℕ, List, [], ◌∷◌, true, false, refl, ap, sym}
use Rattle.std.proofs.Common.{subst}
use Rattle.std.specs.Prelude.{Option, Some, None, Result, Ok, Err}
use Rattle.std.specs.{Option.option_map_or}
use Rattle.std.specs.{Result.result_ok}
use Rattle.dnssec_base.specs.declared.error.Error.{Error}
use Rattle.dnssec_key.specs.{Texts.roll_name, Texts.NamesRoll, declared.roll.RollType.RollType}
use Rattle.dnssec_zone.specs.Rolls.{all_rolls, same_roll}
use Rattle.dnssec_zone.proofs.{Phases.same_roll-is, Tests.each_roll-at}
use Rattle.dnssec_script.specs.Script.{roll_named}
use Rattle.dnssec_script.proofs.Ascii.{Differs, no_roll, unnamed}

is_found : (roll : RollType) (o : Option RollType) → option_map_or (same_roll roll) o false ≡ true
    → o ≡ Some roll
is_found roll None e = cc
is_found roll (Some other) e = ap Some (sym (same_roll-is roll other e))

name_found : (roll : RollType) → roll_named (roll_name roll) ≡ Some roll
unfolding roll_named
name_found roll = is_found roll _
    (each_roll-at (λ r. option_map_or (same_roll r) (roll_named (roll_name r)) false) refl roll)

no_name_found : (text : List ℕ) → ((roll : RollType) → text ≢ roll_name roll)
    → roll_named text ≡ None
unfolding roll_named
no_name_found text other = unnamed roll_name text all_rolls (each all_rolls)
  where
    each : (rolls : List RollType) → Differs roll_name text rolls
    each [] = tt
    each (roll ∷ rolls) = (other roll, each rolls)

-- what the key set reads is the roll of that name
pub roll_read : (text : List ℕ) (r : Result RollType Error) → NamesRoll text r
    → result_ok r ≡ roll_named text
roll_read text (Ok roll) named = sym
    (subst (λ t. roll_named t ≡ Some roll) (sym named) (name_found roll))
roll_read text (Err e) named = sym (no_name_found text named.1)

pub ruleset rolls = (no_roll, roll_read)
