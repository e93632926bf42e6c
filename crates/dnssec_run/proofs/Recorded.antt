-- What a recorder says is published is what the last position shows: for callers of `Recorder`.
use Rattle.std.proofs.Common.{◌≡◌, ◌≤◌, ◌<◌, ℕ, suc, Bool, true, false, List, [], ◌∷◌, length}
use Rattle.std.proofs.Common.{map, refl, sym, ap, ◌∙◌, arith, String, string_bytes}
use Rattle.std.specs.Prelude.{T, ◌^◌, filter, if◌then◌else◌, nat_lt}
use Rattle.std.specs.declared.vec.Vec.{Vec}
use Rattle.std.specs.{FinMap.Entries.is_sorted, Global.Global}
use Rattle.dnssec_zone.proofs.Quantified.{second}
use Rattle.dnssec_run.specs.Adds.{IsInOrder, Listed, by_text, entries_in, id_listed, ids_of}
use Rattle.dnssec_run.specs.Adds.{ids_shown, listed_of}
use Rattle.dnssec_run.specs.declared.{adds.Kept.Kept, call.Call.Call, record.Entry.Entry}
use Rattle.dnssec_run.specs.declared.adds.Kept.TheVariants.{Few, Many}
use Rattle.dnssec_run.specs.declared.{lists.Known.Known, lists.KeyListing.KeyListing}
use Rattle.dnssec_run.specs.declared.{lists.Shown.Shown, record.Published.Published}
use Rattle.dnssec_run.specs.declared.record.PublishedKey.{PublishedKey}
use Rattle.dnssec_run.specs.declared.running.Recorder.{Recorder}
use Rattle.dnssec_run.specs.{Changes.list_at, Lists.at_list, Published.IsPublished, Published.id_of}
use Rattle.dnssec_run.specs.{Record.world_at, Recorder.AreShown, Recorder.Records}
use Rattle.dnssec_run.specs.Safe.{position_at}
use Rattle.dnssec_run.specs.declared.lists.Shown.TheVariants as lists
use Rattle.dnssec_run.proofs.{Asked.Changes.list-is, Listed.ids-are, Listed.listed-published}
use Rattle.dnssec_run.proofs.Positions.{order}

module _ (name : List ℕ) (calls : List Call) (entries : List Entry) (r : Recorder)
    (so : Records name calls entries r) where
  -- a list that it makes is that of the last position
  pub last-list : (s : Shown)
      → list_at s (position_at entries (length entries)) ≡ ids_shown s r.added.kept
  last-list s = list-is so.run s (length entries) (omega arith)
      ∙ sym (rw so.run.count (ids-are r.added.kept r.added.in_order
      (world_at name calls entries (length calls)) so.agrees.listings s))

  -- and all four are published there
  pub shown-published : (sets : Published) → AreShown sets r
      → IsPublished sets (world_at name calls entries (length calls))
  shown-published sets shown = listed-published r.added.kept r.added.in_order
      (world_at name calls entries (length calls)) so.agrees.listings sets shown

-- ---- there are such lists

-- the keys that are there, with their references
abbrev strings_in : Kept → List (String Global × KeyListing)
strings_in (Few keys) = map (λ (k : Known). (k.reference, k.listing)) keys.items
strings_in (Many tree) = tree.entries

same-texts : (keys : List Known)
    → by_text (map (λ (k : Known). (k.reference, k.listing)) keys) ≡ map listed_of keys
same-texts [] = refl
same-texts (k ∷ keys) = ap (λ es. listed_of k ∷ es) (same-texts keys)

texts : (kept : Kept) → by_text (strings_in kept) ≡ entries_in kept
texts (Few keys) = same-texts keys.items
texts (Many tree) = refl

module _ (s : Shown) where
  abbrev one : String Global × KeyListing → PublishedKey
  one e = record { added = e.1.added; reference = e.0 }

  abbrev some : List (String Global × KeyListing) → List PublishedKey
  some es = map one (filter (λ (e : String Global × KeyListing). at_list e.1.shown s) es)

  some-ids : (es : List (String Global × KeyListing)) → map id_of (some es) ≡ ids_of s (by_text es)
  some-ids [] = refl
  some-ids (e ∷ es) = by (at_list e.1.shown s) (some-ids es)
    where
      by : (b : Bool) → map id_of (some es) ≡ ids_of s (by_text es)
          → map id_of (map one (if b then e ∷ filter (λ (e : String Global × KeyListing).
          at_list e.1.shown s) es else filter (λ (e : String Global × KeyListing).
          at_list e.1.shown s) es))
          ≡ map id_listed (if b then (string_bytes e.0, e.1) ∷ filter (λ (e : Listed).
          at_list e.1.shown s) (by_text es) else filter (λ (e : Listed).
          at_list e.1.shown s) (by_text es))
      by true rest = ap (λ ids. (string_bytes e.0, e.1.added) ∷ ids) rest
      by false rest = rest

  some-fewer : (es : List (String Global × KeyListing)) → length (some es) ≤ length (by_text es)
  some-fewer [] = omega arith
  some-fewer (e ∷ es) = by (at_list e.1.shown s) (some-fewer es)
    where
      by : (b : Bool) → length (some es) ≤ length (by_text es)
          → length (map one (if b then e ∷ filter (λ (e : String Global × KeyListing).
          at_list e.1.shown s) es else filter (λ (e : String Global × KeyListing).
          at_list e.1.shown s) es)) ≤ suc (length (by_text es))
      by true rest = omega (arith, rest)
      by false rest = omega (arith, rest)

-- no more keys are there than a list can have
is-true : (b : Bool) → T b → b ≡ true
is-true true h = refl
is-true false h = absurd h

below : (n : ℕ) → nat_lt n (2 ^ 63) ≡ true → n < 2 ^ 63
below n h = grind (arith, h)

fit : (s : Shown) (kept : Kept) → IsInOrder kept → length (some s (strings_in kept)) < 2 ^ 63
fit s kept up =
    let all = below (length (entries_in kept)) (is-true (nat_lt (length (entries_in kept)) (2 ^ 63))
    (second (is_sorted order (entries_in kept)) (nat_lt (length (entries_in kept)) (2 ^ 63)) up)) in
    omega (arith, some-fewer s (strings_in kept), ap length (texts kept), all)

made : (s : Shown) (r : Recorder) → Vec PublishedKey Global
made s r =
    let items = some s (strings_in r.added.kept) in
    record {
      ptr = r.changes.ptr;
      len = length items;
      cap = length items;
      alloc = r.changes.alloc;
      items = items;
      ok = (refl, omega arith);
      small = fit s r.added.kept r.added.in_order;
    }

pub shown-sets : (r : Recorder) → (sets : Published) × AreShown sets r
unfolding made
shown-sets r = (
  record {
    ds = made lists.Ds r;
    dnskey = made lists.Dnskey r;
    dnskey_signers = made lists.DnskeySigners r;
    zone_signers = made lists.ZoneSigners r;
  },
  record {
    ds = is lists.Ds;
    dnskey = is lists.Dnskey;
    dnskey_signers = is lists.DnskeySigners;
    zone_signers = is lists.ZoneSigners;
  },
)
  where
    is : (s : Shown) → map id_of (some s (strings_in r.added.kept)) ≡ ids_shown s r.added.kept
    is s = some-ids s (strings_in r.added.kept) ∙ ap (ids_of s) (texts r.added.kept)
