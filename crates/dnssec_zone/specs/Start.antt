-- Why a start is refused: another roll, an old entry, a new entry, the algorithms, or no key to go
-- on with (RFC 6781, section 4.1). All is said of the keys and rolls before the call.
use Rattle.std.specs.Prelude.{Bool, true, false, not, ◌&&◌, is_some, Option, None, Some}
use Rattle.std.specs.Prelude.{if◌then◌else◌, ℕ, List, map, [], ◌∷◌, ◌||◌, ◌++◌, nat_eq}
use Rattle.std.specs.List.{list_any, list_all}
use Rattle.std.specs.Borrow.{Bor}
use Rattle.std.specs.Str.{bytes_eq}
use Rattle.std.specs.Option.{option_or, option_map_or}
use Rattle.std.specs.FinMap.{get}
use Rattle.dnssec_base.specs.declared.error.Error.{Error}
use Rattle.dnssec_base.specs.declared.error.Error.TheVariants.{WrongStateForRollOperation}
use Rattle.dnssec_base.specs.declared.error.Error.TheVariants.{ConflictingRollInProgress}
use Rattle.dnssec_base.specs.declared.error.Error.TheVariants.{KeyNotFound, WrongKeyType}
use Rattle.dnssec_base.specs.declared.error.Error.TheVariants.{WrongKeyState, AlgorithmSetsMismatch}
use Rattle.dnssec_base.specs.declared.error.Error.TheVariants.{NoSuitableKeyPresent}
use Rattle.dnssec_key.specs.declared.roll.RollType.{RollType}
pub use Rattle.dnssec_key.specs.declared.roll.Side.{Side}
pub use Rattle.dnssec_key.specs.declared.roll.Side.TheVariants.{KskSide, ZskSide, BothSides}
pub use Rattle.dnssec_key.specs.declared.roll.Want.{Want}
pub use Rattle.dnssec_key.specs.declared.roll.Want.TheVariants.{PresentKsk, KskAtParent, PresentZsk}
pub use Rattle.dnssec_key.specs.declared.roll.Want.TheVariants.{PresentKskRole, PresentZskRole}
pub use Rattle.dnssec_key.specs.Sides.{side_of, wants, may_change_algorithms, serves_as_kept}
use Rattle.dnssec_key.specs.Sides.{wanted_role}
use Rattle.dnssec_key.specs.declared.kind.KeyType.{KeyType}
use Rattle.dnssec_key.specs.State.{is_any, is_fresh}
use Rattle.dnssec_key.specs.Key.{ksk, zsk, any_key, KeyParts, all_states}
use Rattle.dnssec_zone.specs.Rolls.{Rolls, phase_of, all_rolls}
use Rattle.dnssec_zone.specs.Keys.{Keys, some_entry}

-- ---- rolls side by side

-- one side has only KSKs, and the other only ZSKs
abbrev pub are_apart : Side → Side → Bool
are_apart KskSide ZskSide = true
are_apart ZskSide KskSide = true
are_apart _ _ = false

-- two rolls go together if one changes only KSKs, the other only ZSKs
abbrev pub together : RollType → RollType → Bool
together roll other = are_apart (side_of roll) (side_of other)

-- some roll is in progress beside which this one may not begin
abbrev pub has_conflict : RollType → Rolls → Bool
has_conflict roll rolls =
    list_any (λ other. is_some (phase_of rolls other) && not (together roll other)) all_rolls

-- the same roll is in progress, or one beside which this roll may not begin
unfoldable pub conflict : RollType → Rolls → Option Error
conflict roll rolls =
    if is_some (phase_of rolls roll) then Some WrongStateForRollOperation
    else (if has_conflict roll rolls then Some ConflictingRollInProgress else None)

-- ---- the two lists of references

-- the texts that references point to
abbrev pub texts : List (Bor (List ℕ)) → List (List ℕ)
texts rs = map (λ (r : Bor (List ℕ)). r.now) rs

-- the reference stands in the list
abbrev pub is_listed : List (List ℕ) → List ℕ → Bool
is_listed qs q = list_any (bytes_eq q) qs

-- a roll may list the keys of its side, and none of another signer
abbrev pub lists_kind : Side → KeyType → Bool
lists_kind KskSide = ksk is_any
lists_kind ZskSide = zsk is_any
lists_kind BothSides = any_key is_any

-- what is wrong with an old entry, given the key that it names
abbrev pub old_entry_fault : RollType → Option KeyParts → Option Error
old_entry_fault roll None = Some KeyNotFound
old_entry_fault roll (Some k) =
    if lists_kind (side_of roll) k.keytype then None else Some WrongKeyType

-- the first fault among the old entries
abbrev pub old_fault : RollType → (List ℕ → Option KeyParts) → List (List ℕ) → Option Error
old_fault roll at [] = None
old_fault roll at (q ∷ qs) = option_or (old_entry_fault roll (at q)) (old_fault roll at qs)

-- what is wrong with a new entry; `taken`: it was listed before
abbrev pub new_entry_fault : RollType → Option KeyParts → Bool → Option Error
new_entry_fault roll None taken = Some KeyNotFound
new_entry_fault roll (Some k) taken =
    if lists_kind (side_of roll) k.keytype
    then (if all_states is_fresh k.keytype && not taken then None else Some WrongKeyState)
    else Some WrongKeyType

-- the first fault among the new entries, given those listed before them
abbrev pub new_fault : RollType → (List ℕ → Option KeyParts)
    → List (List ℕ) → List (List ℕ) → List (List ℕ) → Option Error
new_fault roll at olds earlier [] = None
new_fault roll at olds earlier (q ∷ qs) =
    option_or (new_entry_fault roll (at q) (is_listed olds q || is_listed earlier q))
    (new_fault roll at olds (earlier ++ q ∷ []) qs)

-- ---- the algorithms

-- a listed key has the algorithm (RFC 6781, section 4.1.4)
abbrev pub has_algorithm : (List ℕ → Option KeyParts) → List (List ℕ) → ℕ → Bool
has_algorithm at qs algorithm =
    list_any (λ q. option_map_or (λ k. nat_eq k.algorithm algorithm) (at q) false) qs

-- each algorithm of the first list is one of the second (RFC 6781, section 4.1.4)
abbrev pub algorithms_within : (List ℕ → Option KeyParts) → List (List ℕ) → List (List ℕ) → Bool
algorithms_within at qs others =
    list_all (λ q. option_map_or (λ k. has_algorithm at others k.algorithm) (at q) true) qs

-- the two lists differ in algorithms that the roll may not change (RFC 6781, section 4.1.4)
abbrev pub algorithm_fault : RollType → (List ℕ → Option KeyParts) → List (List ℕ) → List (List ℕ)
    → Option Error
algorithm_fault roll at olds news =
    if may_change_algorithms roll
    || (algorithms_within at olds news && algorithms_within at news olds)
    then None else Some AlgorithmSetsMismatch

-- ---- the keys to go on with

-- a new key serves as soon as it comes in
abbrev pub serves_as_new : Want → KeyType → Bool
serves_as_new want = wanted_role want is_any

-- a listed key passes
abbrev pub some_listed : (KeyType → Bool) → (List ℕ → Option KeyParts) → List (List ℕ) → Bool
some_listed p at qs = list_any (λ q. option_map_or (λ k. p k.keytype) (at q) false) qs

-- a key that isn't listed passes
abbrev pub some_kept : (KeyType → Bool) → Keys → List (List ℕ) → Bool
some_kept p keys olds = some_entry (λ q k. p k.keytype && not (is_listed olds q)) keys

-- a new key serves, or a key that isn't listed as old
abbrev pub is_met : Keys → List (List ℕ) → List (List ℕ) → Want → Bool
is_met keys olds news want =
    some_listed (serves_as_new want) (get keys) news || some_kept (serves_as_kept want) keys olds

-- the start would leave no key to go on with
abbrev pub suitability_fault : RollType → Keys → List (List ℕ) → List (List ℕ) → Option Error
suitability_fault roll keys olds news =
    if list_all (is_met keys olds news) (wants roll) then None else Some NoSuitableKeyPresent
