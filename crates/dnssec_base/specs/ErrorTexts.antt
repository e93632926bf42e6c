-- The texts of durations and of errors that a user reads. No RFC says how they read.
use Rattle.std.specs.Prelude.{ℕ, List, ◌∷◌, codes, nat_le, if◌then◌else◌, zero, suc, ◌+◌, ◌/◌, ◌%◌}
use Rattle.std.specs.Prelude.{◌^◌, [], ◌==◌, ◌++◌, decimal}
use Rattle.std.specs.List.{list_all}
use Rattle.std.specs.Duration.{as_nanos}
use Rattle.dnssec_base.specs.declared.text.TimeUnit.{TimeUnit}
use Rattle.dnssec_base.specs.declared.text.TimeUnit.TheVariants.{Second, Millisecond, Microsecond}
use Rattle.dnssec_base.specs.declared.text.TimeUnit.TheVariants.{Nanosecond}
use Rattle.dnssec_base.specs.declared.error.Error.{Error}
use Rattle.dnssec_base.specs.declared.error.Error.TheVariants.{KeyExists, KeyNotFound, KeyNotOld}
use Rattle.dnssec_base.specs.declared.error.Error.TheVariants.{DuplicateKeyTag, WrongKeyType}
use Rattle.dnssec_base.specs.declared.error.Error.TheVariants.{WrongKeyState, NoSuitableKeyPresent}
use Rattle.dnssec_base.specs.declared.error.Error.TheVariants.{WrongStateForRollOperation}
use Rattle.dnssec_base.specs.declared.error.Error.TheVariants.{ConflictingRollInProgress}
use Rattle.dnssec_base.specs.declared.error.Error.TheVariants.{AlgorithmSetsMismatch, Wait}
use Rattle.dnssec_base.specs.declared.error.Error.TheVariants.{UnknownRollType, OutOfMemory}

-- ---- durations

-- a unit of time: how many nanoseconds it has, how many decimals, and how it is written
pub record UnitEntry : Type 0 where
  pub nanos : ℕ
  pub places : ℕ
  pub name : List ℕ

-- the table of the units; `µ` is the bytes C2 and B5
abbrev pub in_table : TimeUnit → UnitEntry
in_table Second = record { nanos = 1_000_000_000; places = 9; name = codes "s" }
in_table Millisecond = record { nanos = 1_000_000; places = 6; name = codes "ms" }
in_table Microsecond = record { nanos = 1_000; places = 3; name = 0xC2 ∷ 0xB5 ∷ codes "s" }
in_table Nanosecond = record { nanos = 1; places = 0; name = codes "ns" }

-- the largest unit that is no longer than n nanoseconds; for 0 the nanosecond
abbrev pub unit_of : ℕ → TimeUnit
unit_of n =
    if nat_le 1_000_000_000 n then Second
    else (if nat_le 1_000_000 n then Millisecond
    else (if nat_le 1_000 n then Microsecond else Nanosecond))

-- the last k digits of n, in ASCII
unfoldable pub last_digits : ℕ → ℕ → List ℕ
last_digits zero n = []
last_digits (suc k) n = (48 + n / 10 ^ k % 10) ∷ last_digits k n

-- the digits without the zeros at their end
unfoldable pub without_end_zeros : List ℕ → List ℕ
without_end_zeros [] = []
without_end_zeros (d ∷ ds) =
    if list_all (λ e. e == 48) (d ∷ ds) then [] else d ∷ without_end_zeros ds

-- a dot and the decimals; nothing if there is no rest
abbrev pub decimals_text : UnitEntry → ℕ → List ℕ
decimals_text unit rest =
    if rest == 0 then [] else codes "." ++ without_end_zeros (last_digits unit.places rest)

-- n nanoseconds in a unit: the whole part, the decimals, and the unit's name
abbrev pub text_in : UnitEntry → ℕ → List ℕ
text_in unit n = decimal (n / unit.nanos) ++ decimals_text unit (n % unit.nanos) ++ unit.name

-- n nanoseconds, as `1.5s` or `999ms`
abbrev pub duration_text : ℕ → List ℕ
duration_text n = text_in (in_table (unit_of n)) n

-- ---- errors

-- each error's message
abbrev pub error_text : Error → List ℕ
error_text KeyExists = codes "key already exists"
error_text KeyNotFound = codes "key not found"
error_text KeyNotOld = codes "key is still in use, not old"
error_text DuplicateKeyTag = codes "Key tag already present"
error_text WrongKeyType = codes "key has the wrong type"
error_text WrongKeyState = codes "key is in the wrong state"
error_text NoSuitableKeyPresent = codes "no suitable key present after key roll"
error_text WrongStateForRollOperation = codes "wrong roll state for operation"
error_text ConflictingRollInProgress = codes "conflicting roll is in progress"
error_text AlgorithmSetsMismatch = codes "algorithm set mismatch for non-algorithm key roll"
error_text (Wait d) = codes "wait for duration " ++ duration_text (as_nanos d)
error_text UnknownRollType = codes "unable to parse string as roll type"
error_text OutOfMemory = codes "out of memory"
