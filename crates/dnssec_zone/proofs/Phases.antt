-- The phases that a key set shows, read through the hash map that it holds.
use Rattle.std.proofs.Common.{◌≡◌, cond, refl, sym, ◌∙◌, true, ap, arith}
use Rattle.std.proofs.lemmas.{Bool.cond_both, Bool.eq-eqb, List.nil_from_length}
use Rattle.std.specs.Prelude.{Option, nat_eq, if◌then◌else◌}
use Rattle.std.specs.HashMap.{HashMap, get, hash_map_len}
use Rattle.std.specs.Map.{lookup}
use Rattle.dnssec_key.specs.declared.roll.{RollType.RollType, RollState.RollState}
use Rattle.dnssec_key.specs.contracts.roll.{RollTypePartialEq.TheImpl.eq-value, RollType.the_type}
use Rattle.dnssec_zone.specs.Rolls.{same_roll, rolls_in_map, phase_of, with_phase, roll_number}
use Rattle.dnssec_zone.specs.Rolls.{no_rolls}
use denote.Enum.{Bare.same_true, Declared.tag_of}

-- the `==` of rolls
pub same_roll-eq : (a b : RollType) → eq-value.it a b ≡ same_roll a b
same_roll-eq a b = λ i. nat_eq (number a i) (number b i)
  where
    number : (a : RollType) → tag_of the_type a ≡ roll_number a
    number a = grind arith

pub same-itself : (a : RollType) → same_roll a a ≡ true
same-itself a = eq-eqb (roll_number a) (roll_number a) refl

pub same_roll-is : (a b : RollType) → same_roll a b ≡ true → a ≡ b
same_roll-is a b e = same_true the_type tt a b (same_roll-eq a b ∙ e)

-- what is put in place of itself, for a roll
pub put-same : {A : Type 0} (f : RollType → A) (roll : RollType) (x : A) → f roll ≡ x
    → (λ q. if same_roll roll q then x else f q) ≡ f
put-same f roll x is = λ i q. cond_both (same_roll roll q) x (f q) (λ y. y ≡ f q)
    (λ e. sym is ∙ ap f (same_roll-is roll q e)) (λ e. refl) i

module _ {S : Type 0} where
  pub phase_of-shown : (m : HashMap RollType RollState S) (roll : RollType)
      → phase_of (rolls_in_map m) roll ≡ get eq-value.it m roll
  phase_of-shown m roll = λ i. lookup (λ q. sym (same_roll-eq roll q) i) m.entries

  -- the phases after one of them is put in or taken out
  pub rolls_shown-updates : (m n : HashMap RollType RollState S) (roll : RollType)
      (phase : Option RollState)
      → ((q : RollType) → get eq-value.it n q
      ≡ cond (eq-value.it roll q) phase (get eq-value.it m q)) → rolls_in_map n
      ≡ with_phase (rolls_in_map m) roll phase
  rolls_shown-updates m n roll phase h = λ i q. (phase_of-shown n q ∙ h q
      ∙ (λ i. cond (same_roll-eq roll q i) phase (sym (phase_of-shown m q) i))) i

  -- an empty hash map has no phases
  pub shown-none : (m : HashMap RollType RollState S) → hash_map_len m ≡ 0
      → rolls_in_map m ≡ no_rolls
  shown-none m e = λ i roll. ap (lookup (same_roll roll)) (nil_from_length m.entries e) i

pub ruleset phases = (phase_of-shown, rolls_shown-updates)
