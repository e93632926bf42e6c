-- The rolls in progress, each in its phase (RFC 6781, section 4.1).
use Rattle.std.specs.Prelude.{Option, None, ℕ, Bool, nat_eq, if◌then◌else◌, List, [], ◌∷◌, ◌≡◌}
use Rattle.std.specs.HashMap.{HashMap}
use Rattle.std.specs.Map.{lookup}
use Rattle.std.specs.Coded.{Coded, code_by, coded×}
use mathlib.Core.Path.{refl}
use Rattle.dnssec_key.specs.declared.roll.RollState.{RollState}
use Rattle.dnssec_key.specs.declared.roll.RollType.{RollType}
use Rattle.dnssec_key.specs.declared.roll.RollType.TheVariants.{KskRoll, KskDoubleDsRoll, ZskRoll}
use Rattle.dnssec_key.specs.declared.roll.RollType.TheVariants.{ZskDoubleSignatureRoll, CskRoll}
use Rattle.dnssec_key.specs.declared.roll.RollType.TheVariants.{AlgorithmRoll}

-- the phase of each roll, if it is in progress
abbrev pub Rolls : Type 0
Rolls = RollType → Option RollState

-- the phase of one roll, if it is in progress
abbrev pub phase_of : Rolls → RollType → Option RollState
phase_of rolls roll = rolls roll

-- no roll is in progress
abbrev pub no_rolls : Rolls
no_rolls = λ roll. None

-- a number for each roll, to tell rolls apart
abbrev pub roll_number : RollType → ℕ
roll_number KskRoll = 0
roll_number KskDoubleDsRoll = 1
roll_number ZskRoll = 2
roll_number ZskDoubleSignatureRoll = 3
roll_number CskRoll = 4
roll_number AlgorithmRoll = 5

-- both are the same roll
abbrev pub same_roll : RollType → RollType → Bool
same_roll a b = nat_eq (roll_number a) (roll_number b)

-- the rolls with one of them put into a phase, or taken out
abbrev pub with_phase : Rolls → RollType → Option RollState → Rolls
with_phase rolls roll phase = λ other. if same_roll roll other then phase else rolls other

-- the six rolls
abbrev pub all_rolls : List RollType
all_rolls =
    KskRoll ∷ KskDoubleDsRoll ∷ ZskRoll ∷ ZskDoubleSignatureRoll ∷ CskRoll ∷ AlgorithmRoll ∷ []

-- ---- the hash map that has them

module _ {S : Type 0} where
  -- the phases of a hash map
  abbrev pub rolls_in_map : HashMap RollType RollState S → Rolls
  rolls_in_map m = λ roll. lookup (same_roll roll) m.entries

-- ---- how what is there for each roll is stored: as six values, in the order of the rolls

module _ {A : Type 0} where
  abbrev pub six_of : (RollType → A) → A × (A × (A × (A × (A × A))))
  six_of f = (
    f KskRoll,
    (f KskDoubleDsRoll, (f ZskRoll, (f ZskDoubleSignatureRoll, (f CskRoll, f AlgorithmRoll)))),
  )

  abbrev pub of_six : (A × (A × (A × (A × (A × A))))) → RollType → A
  of_six v KskRoll = v.0
  of_six v KskDoubleDsRoll = v.1.0
  of_six v ZskRoll = v.1.1.0
  of_six v ZskDoubleSignatureRoll = v.1.1.1.0
  of_six v CskRoll = v.1.1.1.1.0
  of_six v AlgorithmRoll = v.1.1.1.1.1

  -- nothing is lost
  pub of_six-six_of : (f : RollType → A) (roll : RollType) → of_six (six_of f) roll ≡ f roll
  of_six-six_of f KskRoll = refl
  of_six-six_of f KskDoubleDsRoll = refl
  of_six-six_of f ZskRoll = refl
  of_six-six_of f ZskDoubleSignatureRoll = refl
  of_six-six_of f CskRoll = refl
  of_six-six_of f AlgorithmRoll = refl

  abbrev pub roll_code : Coded A → Coded (RollType → A)
  roll_code c = code_by (A × (A × (A × (A × (A × A)))))
      (coded× c (coded× c (coded× c (coded× c (coded× c c))))) six_of of_six
      (λ f i roll. of_six-six_of f roll i)
