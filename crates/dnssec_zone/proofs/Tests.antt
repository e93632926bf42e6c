-- Tests that are computed: of all rolls, of options, and of two flags.
use Rattle.std.proofs.Common.{◌≡◌, Bool, true, false, not, ◌||◌, None, Some, refl, arith}
use Rattle.std.proofs.lemmas.Bool.{and_parts}
use Rattle.std.specs.{Prelude.Option, List.list_all}
use Rattle.dnssec_key.specs.declared.roll.RollType.{RollType}
use Rattle.dnssec_zone.specs.Rolls.{all_rolls}

-- a test of all rolls
abbrev pub each_roll : (RollType → Bool) → Bool
each_roll p = list_all p all_rolls

pub each_roll-at : (p : RollType → Bool) → each_roll p ≡ true → (r : RollType) → p r ≡ true
each_roll-at p e r = grind (arith, and_parts)

-- what holds without a value and with each holds of an option
pub some_or_none : {A : Type 0} (P : Option A → Type 0) (o : Option A) → (o ≡ None → P None)
    → ((a : A) → o ≡ Some a → P (Some a)) → P o
some_or_none P None none some = none refl
some_or_none P (Some a) none some = some a refl

infixr 20 ◌⇒◌
abbrev pub ◌⇒◌ : Bool → Bool → Bool
true ⇒ b = b
false ⇒ b = true

abbrev pub alike : Bool → Bool → Bool
alike true b = b
alike false b = not b

pub or_second : (a b : Bool) → (a || b) ≡ true → a ≡ false → b ≡ true
or_second a b e f = grind arith
