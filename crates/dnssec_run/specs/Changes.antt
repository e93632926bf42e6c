-- What a call changes in the published lists, key by key. A key is known by its add.
use Rattle.std.specs.Prelude.{◌≡◌, ℕ, ◌==◌, ◌&&◌, ◌||◌, ◌∷◌, [], Bool, not, List}
use Rattle.std.specs.Prelude.{if◌then◌else◌}
use Rattle.std.specs.List.{Contains, list_any}
use Rattle.dnssec_run.specs.declared.lists.{Change.Change, Shown.Shown}
use Rattle.dnssec_run.specs.declared.lists.Shown.TheVariants as shown
use Rattle.dnssec_run.specs.declared.record.Entry.{Entry}
use Rattle.dnssec_run.specs.{Origins.same_set, Origins.set_at, Published.Id, Lists.at_list}
use Rattle.dnssec_run.specs.Safe.{Position, SetKind, Ds, Dnskey, ZoneSigners, position_at}

-- a published list of a position
abbrev pub list_at : Shown → Position → List Id
list_at shown.Ds p = p.ds
list_at shown.Dnskey p = p.dnskey
list_at shown.DnskeySigners p = p.signers
list_at shown.ZoneSigners p = p.zone

-- the list has a key with this add
abbrev pub has_add : (Id → ℕ) → List Id → ℕ → Bool
has_add add ids n = list_any (λ (id : Id). add id == n) ids

-- in a run that is the position of the call that added it
abbrev pub add_of : Id → ℕ
add_of id = id.1

abbrev pub has_added : List Id → ℕ → Bool
has_added = has_add add_of

-- a key comes into a list, or leaves it
abbrev pub moves : Shown → Change → Bool
moves list c = if at_list c.was list then not (at_list c.shown list) else at_list c.shown list

-- and so into a set of this kind, or out of it
abbrev pub moves_in : SetKind → Change → Bool
moves_in Ds c = moves shown.Ds c
moves_in Dnskey c = moves shown.Dnskey c || moves shown.DnskeySigners c
moves_in ZoneSigners c = moves shown.ZoneSigners c

-- whether a list has the key of this add after changes, if it had it so before
abbrev pub has_after : Shown → List Change → ℕ → Bool → Bool
has_after list [] added was = was
has_after list (c ∷ cs) added was = has_after list cs added
    (if moves list c && (c.added == added) then at_list c.shown list else was)

-- the changes lead from what is published at one position to what is published at another, if this
-- is each key's add
pub record LeadTo (add : Id → ℕ) (changes : List Change) (p q : Position) : Type 0 where
  pub stays : (list : Shown) (n : ℕ) → ((c : Change) → Contains changes c → c.added ≡ n → ⊥) →
      has_add add (list_at list q) n ≡ has_add add (list_at list p) n
  pub was : (list : Shown) (c : Change) → Contains changes c →
      has_add add (list_at list p) c.added ≡ at_list c.was list
  pub is : (list : Shown) (c : Change) → Contains changes c →
      has_add add (list_at list q) c.added ≡ at_list c.shown list
  pub same : (kind : SetKind) →
      same_set (set_at kind p) (set_at kind q) ≡ not (list_any (moves_in kind) changes)

-- keys that are published at any positions are one key if they have one add
abbrev pub TellsApart : (Id → ℕ) → List Entry → Type 0
TellsApart add entries = (list other : Shown) (m n : ℕ) (a b : Id) →
    Contains (list_at list (position_at entries m)) a →
    Contains (list_at other (position_at entries n)) b → add a ≡ add b → a ≡ b
