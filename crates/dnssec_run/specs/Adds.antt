-- What is known of the keys that are there: when each was added, and which published lists have it.
use lib.Dec.{T_prop}
use Rattle.std.specs.Prelude.{◌≡◌, ◌<◌, ◌∷◌, ◌&&◌, ◌^◌, ℕ, Bool, true, List, [], T, map, Option}
use Rattle.std.specs.Prelude.{None, Some, filter, get_or, if◌then◌else◌, length, nat_lt}
use Rattle.std.specs.Prelude.{string_bytes}
use Rattle.std.specs.{FinMap.find, FinMap.Entries.is_sorted, Ordering.nat_cmp}
use Rattle.std.specs.{BTreeMap.get_by_text, Cmp.Lexicographic.slice_cmp}
use Rattle.std.specs.{Option.option_and_then, Str.bytes_eq}
use Rattle.std.specs.declared.string.String.{String}
use Rattle.dnssec_key.specs.{Key.KeyParts}
use Rattle.dnssec_run.specs.declared.adds.Kept.{Kept}
use Rattle.dnssec_run.specs.declared.adds.Kept.TheVariants.{Few, Many}
use Rattle.dnssec_run.specs.declared.lists.{Known.Known, KeyListing.KeyListing}
use Rattle.dnssec_run.specs.{ByList.ByList, declared.lists.Change.Change}
use Rattle.dnssec_run.specs.declared.lists.{Shown.Shown}
use Rattle.dnssec_run.specs.declared.record.Published.{Published}
use Rattle.dnssec_run.specs.Lists.{at_list, choose, lists_of, no_list, same_lists}
use Rattle.dnssec_run.specs.declared.lists.Shown.TheVariants as shown
use Rattle.dnssec_run.specs.Published.{Id, id_of}

-- a reference, with what is known of its key
abbrev pub Listed : Type 0
Listed = List ℕ × KeyListing

abbrev pub listed_of : Known → Listed
listed_of k = (string_bytes k.reference, k.listing)

-- ---- keys in the order of their references

module _ {V : Type 0} where
  -- keys are in the order of their references' bytes, and none has the reference of another
  abbrev pub IsAscending : List (List ℕ × V) → Type 0
  IsAscending es = T (is_sorted (slice_cmp nat_cmp) es)

-- what is known of the key with this reference, if it is there
abbrev pub listing_of : List Listed → List ℕ → Option KeyListing
listing_of es q = find (slice_cmp nat_cmp) q es

-- the key at this place has this reference
abbrev pub IsAt : List Known → ℕ → List ℕ → Type 0
IsAt keys i q = (i < length keys)
    × ((d : Known) → bytes_eq (string_bytes (get_or keys i d).reference) q ≡ true)

-- the entries of a tree, by the bytes of their references
module _ {Y : Type 0} where
  abbrev pub by_text : List (String Y × KeyListing) → List Listed
  by_text es = map (λ (e : String Y × KeyListing). (string_bytes e.0, e.1)) es

-- all keys that are there
abbrev pub entries_in : Kept → List Listed
entries_in (Few keys) = map listed_of keys.items
entries_in (Many tree) = by_text tree.entries

-- keys are in order, and no more than a list can have
abbrev pub fits_in_order : List Listed → Bool
fits_in_order es = is_sorted (slice_cmp nat_cmp) es && nat_lt (length es) (2 ^ 63)

abbrev pub IsInOrder : Kept → Type 0
IsInOrder kept = T (fits_in_order (entries_in kept))

pub in-order-prop : (kept : Kept) → IsProp (IsInOrder kept)
in-order-prop kept = T_prop (fits_in_order (entries_in kept))

-- what is known of the key with this reference, if it is there
abbrev pub listing_in : Kept → List ℕ → Option KeyListing
listing_in (Few keys) q = listing_of (map listed_of keys.items) q
listing_in (Many tree) q = get_by_text tree q

-- ---- what is noted

-- of a key that was added at this position
abbrev pub new_listing : ℕ → KeyListing
new_listing n = record { added = n; shown = no_list }

-- these lists have the key
abbrev pub set_shown : ByList → KeyListing → KeyListing
set_shown lists l = record { added = l.added; shown = lists }

-- of the lists that are touched those have it that say so
abbrev pub set_listing : ByList → ByList → KeyListing → KeyListing
set_listing touched is l = set_shown (choose touched is l.shown) l

-- those that its flags show have it, if it is in the key set
abbrev pub reread : Option KeyParts → KeyListing → KeyListing
reread None l = l
reread (Some k) l = set_shown (lists_of k.keytype) l

abbrev pub reread_at : (List ℕ → Option KeyParts) → Listed → Listed
reread_at key e = (e.0, reread (key e.0) e.1)

-- ---- what this changes

-- nothing, if the same lists have the key
abbrev pub change_to : ByList → KeyListing → Option Change
change_to lists l = if same_lists l.shown lists then None
    else Some (record { added = l.added; was = l.shown; shown = lists })

-- nothing, if there is no such key
abbrev pub changed_by : ByList → ByList → Option KeyListing → Option Change
changed_by touched is l =
    option_and_then (λ (l : KeyListing). change_to (choose touched is l.shown) l) l

abbrev pub change_read : Option KeyParts → KeyListing → Option Change
change_read None l = None
change_read (Some k) l = change_to (lists_of k.keytype) l

-- one change before others, if there is one
abbrev pub with_change : Option Change → List Change → List Change
with_change None changes = changes
with_change (Some c) changes = c ∷ changes

-- the changes of all keys, in the order of their references
abbrev pub all_changes : (List ℕ → Option KeyParts) → List Listed → List Change
all_changes key [] = []
all_changes key (e ∷ es) = with_change (change_read (key e.0) e.1) (all_changes key es)

-- ---- the published lists

abbrev pub id_listed : Listed → Id
id_listed e = (e.0, e.1.added)

-- the keys that a list has
abbrev pub ids_of : Shown → List Listed → List Id
ids_of list es = map id_listed (filter (λ (e : Listed). at_list e.1.shown list) es)

abbrev pub ids_shown : Shown → Kept → List Id
ids_shown list kept = ids_of list (entries_in kept)

-- a key, if a list has it
abbrev pub shown_one : Shown → Listed → List Id
shown_one list e = if at_list e.1.shown list then id_listed e ∷ [] else []

-- the four lists have these keys
pub record AreListed (sets : Published) (kept : Kept) : Type 0 where
  pub ds : map id_of sets.ds.items ≡ ids_shown shown.Ds kept
  pub dnskey : map id_of sets.dnskey.items ≡ ids_shown shown.Dnskey kept
  pub dnskey_signers : map id_of sets.dnskey_signers.items ≡ ids_shown shown.DnskeySigners kept
  pub zone_signers : map id_of sets.zone_signers.items ≡ ids_shown shown.ZoneSigners kept
