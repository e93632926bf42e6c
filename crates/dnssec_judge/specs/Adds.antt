-- The keys of a run as small numbers, by the positions of their adds.
use Rattle.std.specs.Prelude.{◌≡◌, ◌≤◌, ◌<◌, ℕ, List, [], ◌∷◌, get_or, Some}
use Rattle.std.specs.{List.Contains, BTreeMap.get, Ordering.nat_cmp}
use Rattle.dnssec_run.specs.declared.lists.{Change.Change, Shown.Shown}
use Rattle.dnssec_run.specs.Changes.{has_after}
use Rattle.dnssec_run.specs.declared.lists.Shown.TheVariants as shown
use Rattle.dnssec_run.specs.Safe.{SetKind, Ds, Dnskey, ZoneSigners}
use Rattle.dnssec_judge.specs.{Bits.has_bit, Sets.Numbered}
use Rattle.dnssec_judge.specs.declared.sets.adds.{Table.Table, TheConstants.FEW}

-- the position of the add of the key that has a number, or 0
abbrev pub add_at : Table → ℕ → ℕ
add_at t n = get_or t.adds.items n 0

-- no two numbers are of one key, and a key is known by the position of its add, unless its number
-- is one of a few
pub record IsTable (t : Table) : Type 0 where
  pub apart : (m n : ℕ) → 0 < add_at t m → add_at t m ≡ add_at t n → m ≡ n
  pub known : (n : ℕ) → FEW ≤ n → 0 < add_at t n → get nat_cmp t.by_added (add_at t n) ≡ Some n

-- each key that has a number keeps it
abbrev pub Grows : Table → Table → Type 0
Grows old new = (n : ℕ) → 0 < add_at old n → add_at new n ≡ add_at old n

-- what is done to a table leaves a table in which each key keeps its number
abbrev pub Extends : Table → Table → Type 0
Extends old new = IsTable old → IsTable new × Grows old new

-- each key that changes has a number, and was added at a position that counts
abbrev pub AreNumbered : Table → List Change → Type 0
AreNumbered t changes = (c : Change) → Contains changes c →
    (0 < c.added) × ((n : ℕ) × (add_at t n ≡ c.added))

-- ---- sets after changes

-- the bits are those of a list after changes
abbrev pub AreAfter : Table → Shown → List Change → List ℕ → List ℕ → Type 0
AreAfter t list cs old new =
    (n : ℕ) → has_bit new n ≡ has_after list cs (add_at t n) (has_bit old n)

-- and of a set; only a DNSKEY set has signers
abbrev pub IsAfter : Table → SetKind → List Change → Numbered → Numbered → Type 0
IsAfter t Ds cs old new = AreAfter t shown.Ds cs old.0 new.0 × (new.1 ≡ 0 ∷ [])
IsAfter t Dnskey cs old new =
    AreAfter t shown.Dnskey cs old.0 new.0 × AreAfter t shown.DnskeySigners cs old.1 new.1
IsAfter t ZoneSigners cs old new =
    AreAfter t shown.ZoneSigners cs old.0 new.0 × (new.1 ≡ 0 ∷ [])
