-- What the recorder of a run keeps besides the key set.
use denote.Ref.{Bor}
use Rattle.std.specs.Prelude.{◌≡◌, ℕ, Bool, true, false, List, [], ◌∷◌, length}
use Rattle.std.specs.Prelude.{Option, None, Some, if◌then◌else◌, string_bytes}
use Rattle.std.specs.Option.{option_map}
use Rattle.std.specs.List.{All}
use Rattle.std.specs.Str.{bytes_eq}
use Rattle.std.specs.FinMap.{get}
use Rattle.std.specs.declared.string.String.{String}
use Rattle.dnssec_key.specs.Key.{KeyParts}
use Rattle.dnssec_key.specs.Setters.{Setting, Present, Signer, AtParent, Stale}
use Rattle.dnssec_keyset.specs.KeySet.{KeySetParts}
use Rattle.dnssec_keyset.specs.Step as keyset
use Rattle.dnssec_run.specs.Adds.{AreListed, all_changes, changed_by, entries_in, listing_in}
use Rattle.dnssec_run.specs.Adds.{new_listing, reread, set_listing, with_change}
use Rattle.dnssec_run.specs.declared.call.Call.{Call}
use Rattle.dnssec_run.specs.declared.call.KeyChange.{KeyChange}
use Rattle.dnssec_run.specs.declared.call.KeyChange.TheVariants.{Adds, Deletes}
use Rattle.dnssec_run.specs.declared.record.Entry.{Entry}
use Rattle.dnssec_run.specs.declared.record.{Outcome.Outcome, Published.Published}
use Rattle.dnssec_run.specs.declared.running.Recorder.{Recorder}
use Rattle.dnssec_run.specs.declared.adds.Kept.{Kept}
use Rattle.dnssec_run.specs.declared.lists.KeyListing.{KeyListing}
use Rattle.dnssec_run.specs.{ByList.ByList, declared.lists.Change.Change}
use Rattle.dnssec_run.specs.declared.lists.{Shown.Shown}
use Rattle.dnssec_run.specs.Lists.{any_list, at_list, lists_of, lists_said, passing, shows}
use Rattle.dnssec_run.specs.Published.{World}
use Rattle.dnssec_run.specs.Record.{IsRun, world_at}

-- the reference of the key that a call deletes, if any
abbrev pub reference_deleted : keyset.Call → Option (List ℕ)
reference_deleted (keyset.DeleteKey reference) = Some reference
reference_deleted _ = None

-- the reference of the key that a call sets by hand, if any
abbrev pub reference_set : keyset.Call → Option (List ℕ)
reference_set (keyset.Set reference setting) = Some reference
reference_set _ = None

-- the reference of the key that is put in or taken out, if any
abbrev pub put_by : KeyChange → Option (List ℕ)
put_by (Adds reference) = Some (string_bytes reference)
put_by _ = None

abbrev pub taken_by : KeyChange → Option (List ℕ)
taken_by (Deletes reference) = Some reference.now
taken_by _ = None

-- what is known of the keys that are there, after one is put in or taken out
abbrev pub listing_after : ℕ → Option (List ℕ) → Option (List ℕ) → (List ℕ → Option KeyListing)
    → List ℕ → Option KeyListing
listing_after n (Some put) taken at q = if bytes_eq put q then Some (new_listing n) else at q
listing_after n None (Some taken) at q = if bytes_eq taken q then None else at q
listing_after n None None at q = at q

-- what is known of a key: the position of its add, and the lists that have it by its flags
abbrev pub listing_for : ℕ → KeyParts → KeyListing
listing_for n k = record { added = n; shown = lists_of k.keytype }

-- the listings are those of the keys that are there, and of no other keys
pub record Agrees (set : KeySetParts) (at : List ℕ → Option KeyListing) (w : World) : Type 0 where
  pub same : set ≡ w.set
  pub listings : (q : List ℕ) → at q ≡ option_map (listing_for (w.added q)) (get w.set.keys q)

-- w has the keys of v, except at this reference
pub record ChangesAt (reference : List ℕ) (v w : World) : Type 0 where
  pub others : (q : List ℕ) → bytes_eq reference q ≡ false → get w.set.keys q ≡ get v.set.keys q
  pub added : (q : List ℕ) → w.added q ≡ v.added q

-- a call that sets a key by hand changes no other key; of any other call this says nothing
abbrev pub ChangesOnly : Option (List ℕ) → World → World → Type 0
ChangesOnly None v w = Unit {0}
ChangesOnly (Some reference) v w = ChangesAt reference v w

-- whether the lists that show a setter's flag show the key after it, if the setting alone says so
abbrev pub shown_after : Setting → Option Bool
shown_after (Present value now) = Some value
shown_after (Signer value) = if value then None else Some false
shown_after (AtParent value) = Some value
shown_after Stale = Some false
shown_after _ = None

abbrev pub shown_by : keyset.Call → Option Bool
shown_by (keyset.Set reference setting) = shown_after setting
shown_by _ = None

-- the lists that a call doesn't touch have the same keys after it
abbrev pub Leaves : ByList → World → World → Type 0
Leaves touched v w = (list : Shown) → at_list touched list ≡ false → (q : List ℕ) →
    passing (shows list) (get w.set.keys q) ≡ passing (shows list) (get v.set.keys q)

-- if this says whether the lists that are touched have the key, they do so
abbrev pub SaysShownAt : Option Bool → ByList → List ℕ → KeySetParts → Type 0
SaysShownAt says touched reference set = (is_shown : Bool) → says ≡ Some is_shown →
    (list : Shown) → at_list touched list ≡ true →
    passing (shows list) (get set.keys reference) ≡ is_shown

abbrev pub SaysShown : Option Bool → ByList → Option (List ℕ) → KeySetParts → Type 0
SaysShown says touched None set = Unit {0}
SaysShown says touched (Some reference) set = SaysShownAt says touched reference set

-- ---- what is read anew

-- What is known of the keys after a call that touches some lists: of the key alone that it set by
-- hand, by what is said of it, or else of all keys, by their flags.
abbrev pub listing_renewed : Option (List ℕ) → ByList → Option Bool → KeySetParts
    → (List ℕ → Option KeyListing) → List ℕ → Option KeyListing
listing_renewed None touched says set at q = option_map (reread (get set.keys q)) (at q)
listing_renewed (Some r) touched says set at q = if bytes_eq r q
    then option_map (set_listing touched (lists_said says (get set.keys r))) (at q) else at q

-- and what this changes
abbrev pub changes_of : Option (List ℕ) → ByList → Option Bool → KeySetParts → Kept → List Change
changes_of None touched says set kept = all_changes (get set.keys) (entries_in kept)
changes_of (Some r) touched says set kept =
    with_change (changed_by touched (lists_said says (get set.keys r)) (listing_in kept r)) []

-- there is a change
abbrev pub is_any : List Change → Bool
is_any [] = false
is_any (c ∷ cs) = true

-- a call on a roll may have changed what it touches; a call by hand has, if there is a change
abbrev pub may_change : Option (List ℕ) → List Change → Bool
may_change None changes = true
may_change (Some r) changes = is_any changes

-- If a call touches no list, nothing is read.
pub record Renews (only : Option (List ℕ)) (touched : ByList) (says : Option Bool)
    (set : KeySetParts) (old new : Kept) (changes : List Change) (changed : Bool) : Type 0 where
  pub listings : (q : List ℕ) → listing_in new q ≡ (if any_list touched
      then listing_renewed only touched says set (listing_in old) q else listing_in old q)
  pub changes_are : changes ≡ (if any_list touched
      then changes_of only touched says set old else [])
  pub changed_is : changed ≡ (if any_list touched then may_change only changes else false)

-- ---- a walk over the keys

-- each key that is lent is the one at its reference
abbrev pub AreFound : {Y : Type 0} → (List ℕ → Option KeyParts)
    → List (Bor (String Y) × Bor KeyParts) → Type 0
AreFound key = All (λ e. key (string_bytes e.0.now) ≡ Some e.1.now)

-- an entry of a map, as a walk lends it
abbrev pub entry_lent : {Y : Type 0} → Bor (String Y) × Bor KeyParts → String Y × KeyParts
entry_lent e = (e.0.now, e.1.now)

-- ---- the record

-- an entry says what its call came to
pub record SaysOutcome (entry : Entry) (outcome : Outcome) : Type 0 where
  pub reply : entry.reply ≡ outcome.reply
  pub mark : entry.mark ≡ outcome.mark
  pub moment : entry.moment ≡ outcome.moment

-- the entries are the record of the calls so far on a new key set of this name, and the recorder
-- stands after the last of them
pub record Records (name : List ℕ) (calls : List Call) (entries : List Entry) (r : Recorder)
    : Type 0 where
  pub run : IsRun name calls entries
  pub at : r.at ≡ length entries
  pub agrees : Agrees r.keyset (listing_in r.added.kept)
      (world_at name calls entries (length calls))

-- these lists are published after the calls so far
abbrev pub AreShown : Published → Recorder → Type 0
AreShown sets r = AreListed sets r.added.kept

-- two recorders stand at one position, over equal key sets and listings
pub record IsCopyOf (copy r : Recorder) : Type 0 where
  pub keyset : copy.keyset ≡ r.keyset
  pub listings : (q : List ℕ) → listing_in copy.added.kept q ≡ listing_in r.added.kept q
  pub at : copy.at ≡ r.at
