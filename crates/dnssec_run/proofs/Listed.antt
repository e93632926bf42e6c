-- The published lists are read off what is known of the keys.
use Rattle.std.proofs.Common.{◌≡◌, ℕ, List, None, Some, refl, sym, ap, ◌∙◌}
use Rattle.std.specs.Prelude.{Option, nat_lt, ◌^◌, length, T}
use Rattle.std.specs.{FinMap.Entries.is_sorted, FinMap.get, Option.option_map}
use Rattle.dnssec_key.specs.Key.{KeyParts}
use Rattle.dnssec_zone.proofs.Quantified.{first}
use Rattle.dnssec_run.specs.Adds.{AreListed, IsInOrder, entries_in, ids_shown, listing_in}
use Rattle.dnssec_run.specs.Adds.{listing_of}
use Rattle.dnssec_run.specs.declared.{adds.Kept.Kept, lists.Shown.Shown}
use Rattle.dnssec_run.specs.declared.lists.KeyListing.{KeyListing}
use Rattle.dnssec_run.specs.declared.adds.Kept.TheVariants.{Few, Many}
use Rattle.dnssec_run.specs.declared.lists.Shown.TheVariants as lists
use Rattle.dnssec_run.specs.declared.record.Published.{Published}
use Rattle.dnssec_run.specs.{Lists.at_list, Lists.shows, Recorder.listing_for}
use Rattle.dnssec_run.specs.Published.{IsPublished, World, keys_where}
use Rattle.dnssec_run.proofs.Positions.{number_shown, order, position_shown, shown-by}
use Rattle.dnssec_run.proofs.Positions.{some-ascending, some-found}
use Rattle.dnssec_run.proofs.Trees.{find-by_text}

-- keys are found among those that are there
pub among : (kept : Kept) (q : List ℕ) → listing_in kept q ≡ listing_of (entries_in kept) q
among (Few keys) q = refl
among (Many tree) q = sym (find-by_text tree.entries q)

pub ascending : (kept : Kept) → IsInOrder kept → T (is_sorted order (entries_in kept))
ascending kept up = first (is_sorted order (entries_in kept))
    (nat_lt (length (entries_in kept)) (2 ^ 63)) up

-- a key that is there is shown if its flags show it
shown-alike : (s : Shown) (n : ℕ) (q : List ℕ) (o : Option KeyParts)
    → number_shown (λ (l : KeyListing). at_list l.shown s) (λ q l. l.added) q
    (option_map (listing_for n) o) ≡ position_shown (shows s) o (Some n)
shown-alike s n q None = refl
shown-alike lists.Ds n q (Some k) = refl
shown-alike lists.Dnskey n q (Some k) = refl
shown-alike lists.DnskeySigners n q (Some k) = refl
shown-alike lists.ZoneSigners n q (Some k) = refl

module _ (kept : Kept) (up : IsInOrder kept) (w : World) (known : (q : List ℕ)
    → listing_in kept q ≡ option_map (listing_for (w.added q)) (get w.set.keys q)) where
  -- so a list has the keys that it shows
  pub ids-are : (s : Shown) → ids_shown s kept ≡ keys_where (shows s) w
  ids-are s = shown-by (shows s) w (ids_shown s kept)
      (some-ascending (λ (l : KeyListing). at_list l.shown s) (λ q l. l.added) (entries_in kept)
      (ascending kept up))
      (λ q. some-found (λ (l : KeyListing). at_list l.shown s) (λ q l. l.added) q (entries_in kept)
      (ascending kept up)
      ∙ ap (number_shown (λ (l : KeyListing). at_list l.shown s) (λ q l. l.added) q)
      (sym (among kept q) ∙ known q) ∙ shown-alike s (w.added q) q (get w.set.keys q))

  pub listed-published : (sets : Published) → AreListed sets kept → IsPublished sets w
  listed-published sets so = record {
    ds = so.ds ∙ ids-are lists.Ds;
    dnskey = so.dnskey ∙ ids-are lists.Dnskey;
    dnskey_signers = so.dnskey_signers ∙ ids-are lists.DnskeySigners;
    zone_signers = so.zone_signers ∙ ids-are lists.ZoneSigners;
  }
