-- Keys of a record, known by the positions of their adds.
use denote.Ref.{Bor}
use Rattle.std.specs.Prelude.{◌≡◌, ◌≤◌, ℕ, Bool, List, false, true}
use Rattle.std.specs.{BTreeMap.BTreeMap, BTreeMap.get, Ordering.nat_cmp}
use Rattle.std.specs.{List.list_all, Option.option_map_or}
use Rattle.dnssec_run.specs.{Changes.list_at, Origins.same_id, Published.Id}
use Rattle.dnssec_run.specs.Published.{id_of}
use Rattle.dnssec_run.specs.Safe.{position_at}
use Rattle.dnssec_run.specs.declared.record.{Entry.Entry, PublishedKey.PublishedKey}
use Rattle.dnssec_run.specs.declared.lists.{Shown.Shown}

-- keys by the positions of their adds
abbrev pub Keys : Type 0
Keys = BTreeMap ℕ (Bor PublishedKey)

-- the key is the one that is there for its add
abbrev pub is_told : Keys → Id → Bool
is_told keys k =
    option_map_or (λ (r : Bor PublishedKey). same_id (id_of r.now) k) (get nat_cmp keys k.1) false

-- and so are those that were published up to a position
abbrev pub AreTold : Keys → List Entry → ℕ → Type 0
AreTold keys entries n = (list : Shown) (m : ℕ) → m ≤ n →
    list_all (is_told keys) (list_at list (position_at entries m)) ≡ true
