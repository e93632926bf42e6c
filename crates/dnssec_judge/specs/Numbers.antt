-- The keys of a record as small numbers: what numbers, and sets of them, stand for.
use Rattle.std.specs.Prelude.{◌≡◌, ◌≤◌, ◌<◌, ℕ, length, true, List}
use Rattle.std.specs.List.{Contains}
use Rattle.dnssec_run.specs.{Origins.CachedSet, Published.Id, Changes.list_at, Safe.position_at}
use Rattle.dnssec_run.specs.declared.{record.Entry.Entry, lists.Shown.Shown}
use Rattle.dnssec_judge.specs.declared.sets.adds.Table.{Table}
use Rattle.dnssec_judge.specs.{Adds.add_at, Bits.has_bit, Sets.Numbered}

-- the key is published at a position of the entries
abbrev pub IsShown : List Entry → Id → Type 0
IsShown entries k =
    (list : Shown) × (m : ℕ) × (m ≤ length entries)
    × Contains (list_at list (position_at entries m)) k

-- a number stands for a key with the add that the table has there
pub record IsKeyOf (entries : List Entry) (t : Table) (add : Id → ℕ) (n : ℕ) (k : Id)
    : Type 0 where
  pub counts : 0 < add_at t n
  pub added : add k ≡ add_at t n
  pub shown : IsShown entries k

-- keys of a record, by the adds that have numbers, if this is each key's add
abbrev pub Keys : Type 0
Keys = List Entry × Table × (Id → ℕ)

abbrev pub Stands : Keys → ℕ → Id → Type 0
Stands key n k = IsKeyOf key.0 key.1 key.2 n k

-- no two numbers are of one key, and a number is of one key
pub record AreApart (key : Keys) : Type 0 where
  pub apart : (m n : ℕ) (k : Id) → Stands key m k → Stands key n k → m ≡ n
  pub one : (n : ℕ) (k l : Id) → Stands key n k → Stands key n l → k ≡ l

-- the bits are those of the keys of a list
pub record Means (key : Keys) (words : List ℕ) (keys : List Id) : Type 0 where
  pub members : (n : ℕ) → has_bit words n ≡ true
      → (k : Id) × Contains keys k × Stands key n k
  pub all : (k : Id) → Contains keys k → (n : ℕ) × (has_bit words n ≡ true) × Stands key n k

-- the same for a set with its signers
abbrev pub MeansSet : Keys → Numbered → CachedSet → Type 0
MeansSet key p set = Means key p.0 set.0 × Means key p.1 set.1
