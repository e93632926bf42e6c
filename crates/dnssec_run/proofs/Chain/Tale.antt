-- A run as the chain's proof sees it: at each position the keys by reference, the positions of
-- their adds, and the phases of the rolls.
use Rattle.std.proofs.Common.{◌≡◌, ℕ, ◌-◌, ◌≤◌, ◌⊎◌, Bool, true, false, List, Option, None, Some}
use Rattle.std.proofs.Common.{arith}
use Rattle.std.specs.Prelude.{if◌then◌else◌, ◌==◌, ◌*◌}
use Rattle.std.specs.FinMap.{get}
use Rattle.dnssec_key.specs.declared.roll.Half.{Half}
use Rattle.dnssec_key.specs.RollTable.{after_start, after_early_end, column, stamps_after}
use Rattle.dnssec_key.specs.declared.roll.{RollType.RollType, RollState.RollState}
use Rattle.dnssec_key.specs.{declared.kind.KeyType.KeyType, Key.KeyParts, Key.all_states}
use Rattle.dnssec_key.specs.State.{is_future}
use Rattle.dnssec_zone.specs.Rolls.{phase_of, same_roll}
use Rattle.dnssec_zone.specs.Start.{is_listed, may_change_algorithms, together, serves_as_new}
use Rattle.dnssec_zone.specs.Start.{serves_as_kept, lists_kind, side_of}
use Rattle.dnssec_zone.proofs.Flags.{started, ended, listed_old, SideOf, affects}
use Rattle.dnssec_run.proofs.Chain.Tables.{Stamp, stamp_in, read, checked, want_on}
use Rattle.dnssec_run.specs.{declared.call.Call.Call, declared.record.Entry.Entry, Published.Id}
use Rattle.dnssec_run.{specs.Published.World as RealWorld, proofs.Premise.IsPlainBySets}
use Rattle.dnssec_run.specs.Record as rec

-- a run of a plain list, with its record, and a family of keys whose chain is shown
pub record Tale : Type 0 where
  pub name : List ℕ
  pub calls : List Call
  pub es : List Entry
  pub run : rec.IsRun name calls es
  pub plain : IsPlainBySets name calls es
  pub of : Id → Bool  -- the key is of the family
  pub whole : Bool  -- all keys are
  pub all : whole ≡ true → (id : Id) → of id ≡ true

abbrev pub Key : Type 0
Key = KeyParts

abbrev pub stamp_of : Stamp → Key → Option ℕ
stamp_of s k = stamp_in s k.timestamps

-- what is there at a position
pub record World : Type 0 where
  pub key : List ℕ → Option Key
  pub added : List ℕ → ℕ
  pub roll : RollType → Option RollState

abbrev pub seen : RealWorld → World
seen w = record { key = get w.set.keys; added = w.added; roll = phase_of w.set.rolls }

abbrev pub world_at : Tale → ℕ → World
world_at tale n = seen (rec.world_at tale.name tale.calls tale.es n)

abbrev pub found : World → Id → Option Key
found w id = if w.added id.0 == id.1 then w.key id.0 else None

-- the key of a record at a position, if it is there
abbrev pub key_at : Tale → ℕ → Id → Option Key
key_at tale n id = found (world_at tale n) id

abbrev pub if_some : (KeyType → Bool) → Option Key → Bool
if_some p None = false
if_some p (Some k) = p k.keytype

-- it is there, and passes
abbrev pub Passes : Tale → (KeyType → Bool) → ℕ → Id → Type 0
Passes tale p n id = if_some p (key_at tale n id) ≡ true

abbrev pub put_roll : (RollType → Option RollState) → RollType → Option RollState → RollType
    → Option RollState
put_roll f r a q = if same_roll r q then a else f q

-- a key after a start, by its parts
abbrev pub started_key : RollType → ℕ → Bool → Bool → Key → Key
started_key r now o i k = record k {
  keytype = started r o i k.keytype;
  timestamps = if i then stamps_after (column r).writes (listed_old o k.keytype) now k.timestamps
      else k.timestamps;
}

pub start-parts : (r : RollType) (now : ℕ) (o i : Bool) (k : Key) → after_start r now o i k
    ≡ started_key r now o i k
start-parts r now o i k = grind arith

pub early-end-parts : (r : RollType) (o i : Bool) (k : Key)
    → after_early_end r o i k ≡ record k { keytype = ended r o i k.keytype }
early-end-parts r o i k = grind arith

abbrev pub start_key : RollType → ℕ → List (List ℕ) → List (List ℕ) → List ℕ → Key → Key
start_key r now old new q k = started_key r now (is_listed old q) (is_listed new q) k

abbrev pub IsOver : RollType → Half → World → ℕ → ℕ → Type 0
IsOver r half w ttl now = (q : List ℕ) (k : Key) → w.key q ≡ Some k → checked r half k.keytype
    ≡ true →
    (m : ℕ) × (stamp_of (read r half) k ≡ Some m) × (ttl * 1_000_000_000 ≤ now - m)

abbrev pub HasSuitable : SideOf → RollType → World → List (List ℕ) → List (List ℕ) → Type 0
HasSuitable sd r w old new = (q : List ℕ) × (k : Key) × (w.key q ≡ Some k)
    × (((is_listed new q ≡ true) × (serves_as_new (want_on sd r) k.keytype ≡ true))
    ⊎ ((is_listed old q ≡ false) × (serves_as_kept (want_on sd r) k.keytype ≡ true)))

pub record CanStart (r : RollType) (w : World) (old new : List (List ℕ)) : Type 0 where
  pub alone : (q : RollType) → together r q ≡ false → w.roll q ≡ None
  pub old_is : (q : List ℕ) → is_listed old q ≡ true → (k : Key) × (w.key q ≡ Some k)
      × (lists_kind (side_of r) k.keytype ≡ true)
  pub new_is : (q : List ℕ) → is_listed new q ≡ true → (k : Key) × (w.key q ≡ Some k)
      × (lists_kind (side_of r) k.keytype ≡ true) × (all_states is_future k.keytype ≡ true)
      × (is_listed old q ≡ false)
  pub algorithms : may_change_algorithms r ≡ false → (q : List ℕ) (k : Key) → w.key q ≡ Some k
      → is_listed old q ≡ true → (x : List ℕ) × (j : Key) × (w.key x ≡ Some j)
      × (is_listed new x ≡ true) × (j.algorithm ≡ k.algorithm)
  pub suitable : (sd : SideOf) → affects sd r ≡ true → HasSuitable sd r w old new
