-- What starts have listed. It is kept for rolls that may still be ended early.
use Rattle.std.specs.Prelude.{ℕ, List, [], if◌then◌else◌, filter, not, Bool, false, true}
use Rattle.std.specs.Str.{bytes_eq}
use Rattle.std.specs.FinMap.{get}
use Rattle.std.specs.Option.{option_map_or}
use Rattle.dnssec_key.specs.declared.roll.RollType.{RollType}
use Rattle.dnssec_key.specs.State.{is_kept}
use Rattle.dnssec_key.specs.Key.{all_states}
use Rattle.dnssec_key.specs.declared.roll.Half.{Half}
use Rattle.dnssec_key.specs.declared.roll.Half.TheVariants.{First, Second}
use Rattle.dnssec_zone.specs.declared.rolls.Part.{Part}
use Rattle.dnssec_zone.specs.declared.rolls.Part.TheVariants.{Old, New}
use Rattle.dnssec_zone.specs.Rolls.{same_roll}
use Rattle.dnssec_zone.specs.Keys.{Keys}

-- both are the same part
abbrev pub same_part : Part → Part → Bool
same_part Old Old = true
same_part Old New = false
same_part New Old = false
same_part New New = true

-- what is kept of a start until its first report
pub record Listed : Type 0 where
  pub olds : List (List ℕ)  -- the old references whose keys were not old
  pub news : List (List ℕ)  -- the new references

-- nothing is kept
abbrev pub nothing_listed : Listed
nothing_listed = record { olds = []; news = [] }

-- what is kept for each roll
abbrev pub Lists : Type 0
Lists = RollType → Listed

-- what is kept for one roll
abbrev pub listed_by : Lists → RollType → Listed
listed_by lists roll = lists roll

-- no start has listed a key
abbrev pub no_lists : Lists
no_lists = λ roll. nothing_listed

-- the lists with these put in for one roll
abbrev pub with_listed : Lists → RollType → Listed → Lists
with_listed lists roll listed = λ other. if same_roll roll other then listed else lists other

-- a list without a reference
abbrev pub others : List ℕ → List (List ℕ) → List (List ℕ)
others reference = filter (λ q. not (bytes_eq reference q))

-- the lists without a reference
abbrev pub without : List ℕ → Lists → Lists
without reference lists = λ roll. record {
  olds = others reference (lists roll).olds;
  news = others reference (lists roll).news;
}

-- ---- what is kept of a start, and until when

-- the key at a reference is there, and not old
abbrev pub has_kept_key : Keys → List ℕ → Bool
has_kept_key keys q = option_map_or (λ k. all_states is_kept k.keytype) (get keys q) false

-- what a start lists: its old references whose keys are not old yet, and its new ones
abbrev pub listed_at_start : Keys → List (List ℕ) → List (List ℕ) → Listed
listed_at_start keys olds news = record { olds = filter (has_kept_key keys) olds; news = news }

-- from the first report on nothing is kept for the roll
abbrev pub lists_after_report : RollType → Half → Lists → Lists
lists_after_report roll First lists = with_listed lists roll nothing_listed
lists_after_report roll Second lists = lists
