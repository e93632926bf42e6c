-- What starts have listed, as it is kept: the tag of each key, its roll, and whether it is listed
-- as old or new.
use Rattle.std.specs.Prelude.{◌≡◌, ℕ, Bool, not, ◌&&◌, nat_eq, List, [], ◌∷◌, ◌++◌}
use Rattle.std.specs.Prelude.{if◌then◌else◌, Option, None, Some, map, filter}
use Rattle.std.specs.List.{list_any}
use Rattle.std.specs.FinMap.{get, entries}
use Rattle.dnssec_key.specs.declared.roll.RollType.{RollType}
use Rattle.dnssec_key.specs.State.{is_kept}
use Rattle.dnssec_key.specs.Key.{KeyParts, all_states}
use Rattle.dnssec_key.specs.declared.roll.Half.{Half}
use Rattle.dnssec_key.specs.declared.roll.Half.TheVariants.{First, Second}
use Rattle.dnssec_zone.specs.declared.rolls.ListedKey.{ListedKey}
use Rattle.dnssec_zone.specs.declared.rolls.Part.{Part}
use Rattle.dnssec_zone.specs.declared.rolls.Part.TheVariants.{Old, New}
use Rattle.dnssec_zone.specs.Keys.{Keys, TagsApart}
use Rattle.dnssec_zone.specs.Lists.{Lists, same_part}
use Rattle.dnssec_zone.specs.Rolls.{same_roll}

abbrev pub is_of_roll : RollType → ListedKey → Bool
is_of_roll roll e = same_roll roll e.roll

-- the roll's start has listed the key as this
abbrev pub is_of : RollType → Part → ListedKey → Bool
is_of roll part e = is_of_roll roll e && same_part part e.part

-- a key with the tag is listed by the roll as this
abbrev pub has_entry : RollType → Part → ℕ → List ListedKey → Bool
has_entry roll part tag = list_any (λ e. is_of roll part e && nat_eq e.key_tag tag)

abbrev pub without_roll : RollType → List ListedKey → List ListedKey
without_roll roll = filter (λ e. not (is_of_roll roll e))

abbrev pub without_tag : ℕ → List ListedKey → List ListedKey
without_tag tag = filter (λ e. not (nat_eq e.key_tag tag))

-- ---- a start

-- the entry of a key that is there, and not old
abbrev pub entry_of : RollType → Part → Option KeyParts → List ListedKey
entry_of roll part None = []
entry_of roll part (Some k) =
    if all_states is_kept k.keytype
    then record { roll = roll; part = part; key_tag = k.key_tag } ∷ []
    else []

abbrev pub entries_of : Keys → RollType → Part → List (List ℕ) → List ListedKey
entries_of keys roll part [] = []
entries_of keys roll part (q ∷ qs) =
    entry_of roll part (get keys q) ++ entries_of keys roll part qs

abbrev pub entries_at_start : Keys → RollType → List (List ℕ) → List (List ℕ) → List ListedKey
    → List ListedKey
entries_at_start keys roll olds news es =
    (without_roll roll es ++ entries_of keys roll Old olds) ++ entries_of keys roll New news

abbrev pub entries_after_report : RollType → Half → List ListedKey → List ListedKey
entries_after_report roll First es = without_roll roll es
entries_after_report roll Second es = es

-- ---- the lists of references that the entries mean

abbrev pub first_with : ℕ → List (List ℕ × KeyParts) → List ℕ
first_with tag [] = []
first_with tag (e ∷ es) = if nat_eq e.1.key_tag tag then e.0 else first_with tag es

-- the reference of the key that has the tag
abbrev pub reference_of : Keys → ℕ → List ℕ
reference_of keys tag = first_with tag (entries keys)

abbrev pub references_of : Keys → RollType → Part → List ListedKey → List (List ℕ)
references_of keys roll part es =
    map (λ e. reference_of keys e.key_tag) (filter (is_of roll part) es)

abbrev pub lists_of : Keys → List ListedKey → Lists
lists_of keys es = λ roll. record {
  olds = references_of keys roll Old es;
  news = references_of keys roll New es;
}

-- some key has the tag
abbrev pub IsThere : Keys → ℕ → Type 0
IsThere keys tag =
    (q : List ℕ) × (k : KeyParts) × (get keys q ≡ Some k) × (k.key_tag ≡ tag)

-- each entry is of a key
abbrev pub AreThere : Keys → List ListedKey → Type 0
AreThere keys [] = Unit {0}
AreThere keys (e ∷ es) = IsThere keys e.key_tag × AreThere keys es

-- no two keys have one tag, and each entry is of a key
pub record EntriesAgree (keys : Keys) (es : List ListedKey) : Type 0 where
  pub apart : TagsApart keys
  pub there : AreThere keys es
