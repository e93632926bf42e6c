-- The changes that a call notes are those of the keys that have changed: for `advance`.
use Rattle.std.proofs.Common.{◌≡◌, ℕ, zero, suc, Bool, true, false, List, [], ◌∷◌, None, Some, refl}
use Rattle.std.proofs.Common.{sym, ap, ◌∙◌, subst, arith, inl, inr, ◌⊎◌}
use Rattle.std.specs.Prelude.{Option, if◌then◌else◌}
use Rattle.std.proofs.lemmas.Bool.{cases_Bool, or_right, true≢false}
use Rattle.std.proofs.lemmas.{Map.Views.Contains-from_lookup, Option.none-some, Option.same_Some}
use Rattle.std.specs.{Cmp.Lexicographic.bytes_decides, Cmp.Lexicographic.slice_cmp}
use Rattle.std.specs.{List.Contains, FinMap.get, Option.option_map, Ordering.is_eq}
use Rattle.std.specs.{Ordering.nat_cmp, Str.bytes_eq}
use Rattle.dnssec_key.specs.Key.{KeyParts}
use Rattle.dnssec_zone.proofs.Quantified.{same_key}
use Rattle.dnssec_keyset.specs.KeySet.{KeySetParts}
use Rattle.dnssec_keyset.proofs.Changes.{Changes}
use Rattle.dnssec_run.specs.Adds.{IsInOrder, Listed, all_changes, change_read, change_to}
use Rattle.dnssec_run.specs.Adds.{changed_by, entries_in, listing_in, with_change}
use Rattle.dnssec_run.specs.declared.{adds.Kept.Kept, lists.KeyListing.KeyListing}
use Rattle.dnssec_run.specs.{ByList.ByList, declared.lists.Change.Change}
use Rattle.dnssec_run.specs.declared.lists.{Shown.Shown}
use Rattle.dnssec_run.specs.Lists.{any_list, choose, lists_of, lists_said, lists_with, passing}
use Rattle.dnssec_run.specs.Lists.{same_lists, shows}
use Rattle.dnssec_run.specs.Published.{World}
use Rattle.dnssec_run.specs.Recorder.{ChangesOnly, Leaves, SaysShown, changes_of}
use Rattle.dnssec_run.proofs.Asked.Actions.{idle-unseen}
use Rattle.dnssec_run.proofs.{Chain.Shown.found_in, Effects.deleted-stale, Effects.deletes}
use Rattle.dnssec_run.proofs.{Effects.goes, Listed.among, Listed.ascending}
use Rattle.dnssec_run.proofs.Moved.{Told, change_at}
use Rattle.dnssec_run.proofs.Next.{AreNoted, by-hand, listing_was, not-touched, same-with}
use Rattle.dnssec_zone.specs.Wait as waits
use Rattle.dnssec_keyset.specs.Step as keyset

-- ---- a list of changes

has-more : {A : Type 0} (x : A) (xs : List A) (c : A) → Contains xs c → Contains (x ∷ xs) c
has-more x xs c (k, lt, eq) = (suc k, omega (arith, lt), eq)

has-first : {A : Type 0} (x : A) (xs : List A) → Contains (x ∷ xs) x
has-first x xs = (zero, omega arith, refl)

has-cases : {A : Type 0} (x : A) (xs : List A) (c : A) → Contains (x ∷ xs) c
    → (x ≡ c) ⊎ Contains xs c
has-cases x xs c (zero, lt, eq) = inl eq
has-cases x xs c (suc k, lt, eq) = inr (k, omega (arith, lt), eq)

pub has-none : {A : Type 0} (c : A) → Contains [] c → ⊥
has-none c (k, lt, eq) = absurd (omega (arith, lt))

module _ (key : List ℕ → Option KeyParts) where
  -- each is that of an entry
  changes-have : (es : List Listed) (c : Change) → Contains (all_changes key es) c
      → (e : Listed) × Contains es e × (change_read (key e.0) e.1 ≡ Some c)
  changes-have [] c h = absurd (has-none c h)
  changes-have (e ∷ es) c h = by (change_read (key e.0) e.1) refl h (changes-have es c)
    where
      Of : List Listed → Type 0
      Of es = (x : Listed) × Contains es x × (change_read (key x.0) x.1 ≡ Some c)

      more : Of es → Of (e ∷ es)
      more r = (r.0, has-more e es r.0 r.1, r.2)

      by : (o : Option Change) → change_read (key e.0) e.1 ≡ o
          → Contains (with_change o (all_changes key es)) c
          → (Contains (all_changes key es) c → Of es) → Of (e ∷ es)
      by None is h rest = more (rest h)
      by (Some d) is h rest = elim (has-cases d (all_changes key es) c h) [
        | inl same ↦ (e, has-first e es, is ∙ ap Some same)
        | inr later ↦ more (rest later)
      ]

  -- and that of each entry is one
  changes-all : (es : List Listed) (e : Listed) (c : Change) → Contains es e
      → change_read (key e.0) e.1 ≡ Some c → Contains (all_changes key es) c
  changes-all [] e c h read = absurd (has-none e h)
  changes-all (x ∷ es) e c h read = elim (has-cases x es e h) [
    | inl same ↦ subst (λ o. Contains (with_change o (all_changes key es)) c)
        (sym (ap (λ (e : Listed). change_read (key e.0) e.1) same ∙ read))
        (has-first c (all_changes key es))
    | inr later ↦ by (change_read (key x.0) x.1) (changes-all es e c later read)
  ]
    where
      by : (o : Option Change) → Contains (all_changes key es) c
          → Contains (with_change o (all_changes key es)) c
      by None h = h
      by (Some d) h = has-more d (all_changes key es) c h

-- ---- one change

pub same-self : (a : ByList) → same_lists a a ≡ true
same-self a = grind arith

change-is : (lists : ByList) (l : KeyListing) (c : Change) → change_to lists l ≡ Some c
    → c ≡ record { added = l.added; was = l.shown; shown = lists }
change-is lists l c h = by (same_lists l.shown lists) h
  where
    by : (b : Bool) → (if b then None
        else Some (record { added = l.added; was = l.shown; shown = lists })) ≡ Some c
        → c ≡ record { added = l.added; was = l.shown; shown = lists }
    by true h = absurd (none-some c h)
    by false h = sym (same_Some _ _ h)

change-there : (lists : ByList) (l : KeyListing) → same_lists l.shown lists ≡ false
    → change_to lists l ≡ Some (record { added = l.added; was = l.shown; shown = lists })
change-there lists l other = rw other refl

-- ---- what has changed, and what is noted

-- a key that is gone was in no list
pub gone : (old new : KeySetParts) (c : keyset.Call) → keyset.clearance old c ≡ waits.Clear
    → Changes old c new → (q : List ℕ) → get new.keys q ≡ None → (s : Shown)
    → passing (shows s) (get old.keys q) ≡ false
gone old new c clear changes q none s = by (get old.keys q) refl
  where
    by : (o : Option KeyParts) → get old.keys q ≡ o → passing (shows s) o ≡ false
    by None is = refl
    by (Some k) is = elim (cases_Bool (deletes c q)) [
      | inl t ↦ idle-unseen s k.keytype (or_right _ _ (deleted-stale old c clear q k is t))
      | inr t ↦ absurd (none-some _ (sym none ∙ goes old new c clear changes q k is t))
    ]

module _ (v w : World) (touched : ByList) (says : Option Bool) (kept : Kept) (up : IsInOrder kept)
    (noted : AreNoted (listing_in kept) v w) (leaves : Leaves touched v w)
    (went : (q : List ℕ) → get w.set.keys q ≡ None → (s : Shown)
    → passing (shows s) (get v.set.keys q) ≡ false) where
  abbrev key : List ℕ → Option KeyParts
  key = get w.set.keys

  -- the lists that have a key differ
  abbrev Differ : List ℕ → Type 0
  Differ q = same_lists (lists_with (get v.set.keys q)) (lists_with (key q)) ≡ false

  alike : (q : List ℕ) → lists_with (get v.set.keys q) ≡ lists_with (key q) → Differ q → ⊥
  alike q same other = true≢false (sym (same-self (lists_with (key q)))
      ∙ ap (λ a. same_lists a (lists_with (key q))) (sym same) ∙ other)

  -- so the key is there
  is-there : (q : List ℕ) → Differ q → (k : KeyParts) × (key q ≡ Some k)
  is-there q other = by (key q) refl
    where
      by : (o : Option KeyParts) → key q ≡ o → (k : KeyParts) × (key q ≡ Some k)
      by None is = absurd (alike q (same-with (get v.set.keys q) (key q)
          (λ s. went q is s ∙ sym (ap (passing (shows s)) is))) other)
      by (Some k) is = (k, is)

  listing-is : (q : List ℕ) (k : KeyParts) → key q ≡ Some k
      → listing_in kept q ≡ Some (listing_was (w.added q) (get v.set.keys q) k)
  listing-is q k is = noted q ∙ ap (option_map (listing_was (w.added q) (get v.set.keys q))) is

  with-is : (q : List ℕ) (k : KeyParts) → key q ≡ Some k → lists_of k.keytype ≡ lists_with (key q)
  with-is q k is = ap lists_with (sym is)

  -- ---- all keys are read

  all-each : (c : Change) → Contains (all_changes key (entries_in kept)) c
      → (q : List ℕ) × (k : KeyParts) × (key q ≡ Some k) × (c ≡ change_at v w q)
  all-each c h =
      let x = changes-have key (entries_in kept) c h in
      let known : listing_in kept x.0.0 ≡ Some x.0.1 = among kept x.0.0
      ∙ found_in (entries_in kept) (ascending kept up) x.0 x.1 in
      by x.0.0 x.0.1 known (key x.0.0) refl x.2
    where
      by : (q : List ℕ) (l : KeyListing) → listing_in kept q ≡ Some l → (o : Option KeyParts)
          → key q ≡ o → change_read o l ≡ Some c
          → (q : List ℕ) × (k : KeyParts) × (key q ≡ Some k) × (c ≡ change_at v w q)
      by q l known None is read = absurd (none-some c read)
      by q l known (Some k) is read =
          let l_is = same_Some _ _ (sym known ∙ listing-is q k is) in
          let c_is = change-is (lists_of k.keytype) l c read in
          let shown = with-is q k is in (
            q,
            k,
            is,
            c_is ∙ (λ i. record {
              added = (l_is i).added;
              was = (l_is i).shown;
              shown = shown i;
            }),
          )

  all-all : (q : List ℕ) → Differ q
      → Contains (all_changes key (entries_in kept)) (change_at v w q)
  all-all q other =
      let k = is-there q other in
      let l = listing_was (w.added q) (get v.set.keys q) k.0 in
      let found = Contains-from_lookup {eq = λ x y. is_eq (slice_cmp nat_cmp x y)} same_key q l
      (entries_in kept) (sym (among kept q) ∙ listing-is q k.0 k.1) in
      let shown = with-is q k.0 k.1 in
      changes-all key (entries_in kept) (q, l) (change_at v w q) found
      (ap (λ o. change_read o l) k.1 ∙ (λ i. change_to (shown i) l)
      ∙ change-there (lists_with (key q)) l other)

  -- ---- one key is set by hand

  one-each : (r : List ℕ) → SaysShown says touched (Some r) w.set → (c : Change)
      → Contains (with_change (changed_by touched (lists_said says (key r)) (listing_in kept r)) [])
      c → (q : List ℕ) × (k : KeyParts) × (key q ≡ Some k) × (c ≡ change_at v w q)
  one-each r so c h = by (key r) refl
    where
      said : ByList
      said = lists_said says (key r)

      hand : choose touched said (lists_with (get v.set.keys r)) ≡ lists_with (key r)
      hand = by-hand v w touched says (listing_in kept) noted leaves r so

      of : (o : Option Change) → Contains (with_change o []) c → o ≡ Some c
      of None h = absurd (has-none c h)
      of (Some d) h = elim (has-cases d [] c h) [
        | inl same ↦ ap Some same
        | inr later ↦ absurd (has-none c later)
      ]

      by : (o : Option KeyParts) → key r ≡ o
          → (q : List ℕ) × (k : KeyParts) × (key q ≡ Some k) × (c ≡ change_at v w q)
      by None is = absurd (none-some c (sym (ap (changed_by touched said) (noted r
          ∙ ap (option_map (listing_was (w.added r) (get v.set.keys r))) is)) ∙ of _ h))
      by (Some k) is =
          let l = listing_was (w.added r) (get v.set.keys r) k in
          let read = sym (ap (changed_by touched said) (listing-is r k is)) ∙ of _ h in (
            r,
            k,
            is,
            change-is (choose touched said l.shown) l c read ∙ (λ i. record {
              added = w.added r;
              was = lists_with (get v.set.keys r);
              shown = hand i;
            }),
          )

  one-all : (r : List ℕ) → ChangesOnly (Some r) v w → SaysShown says touched (Some r) w.set
      → (q : List ℕ) → Differ q
      → Contains (with_change (changed_by touched (lists_said says (key r)) (listing_in kept r)) [])
      (change_at v w q)
  one-all r only so q other = elim (cases_Bool (bytes_eq r q)) [
    | inl t ↦ subst (λ q. Differ q → Contains
        (with_change (changed_by touched said (listing_in kept r)) []) (change_at v w q))
        ((bytes_decides r q).0 t) here other
    | inr t ↦ absurd (alike q (ap lists_with (sym (only.others q t))) other)
  ]
    where
      said : ByList
      said = lists_said says (key r)

      hand : choose touched said (lists_with (get v.set.keys r)) ≡ lists_with (key r)
      hand = by-hand v w touched says (listing_in kept) noted leaves r so

      here : Differ r → Contains (with_change (changed_by touched said (listing_in kept r)) [])
          (change_at v w r)
      here other =
          let k = is-there r other in
          let l = listing_was (w.added r) (get v.set.keys r) k.0 in
          subst (λ o. Contains (with_change o []) (change_at v w r)) (sym (
          ap (changed_by touched said) (listing-is r k.0 k.1)
          ∙ (λ i. change_to (hand i) l) ∙ change-there (lists_with (key r)) l other))
          (has-first (change_at v w r) [])

  -- ---- so the changes that are noted are told

  pub told : (only : Option (List ℕ)) → ChangesOnly only v w → SaysShown says touched only w.set
      → Told v w (if any_list touched then changes_of only touched says w.set kept else [])
  told only other so = elim (cases_Bool (any_list touched)) [
    | inl t ↦ rw t (by only other so)
    | inr t ↦ rw t record {
      each = λ c h. absurd (has-none c h);
      all = λ q differ. absurd (alike q
          (not-touched v w touched says (listing_in kept) noted leaves t q) differ);
    }
  ]
    where
      by : (only : Option (List ℕ)) → ChangesOnly only v w → SaysShown says touched only w.set
          → Told v w (changes_of only touched says w.set kept)
      by None other so = record { each = all-each; all = all-all }
      by (Some r) other so = record { each = one-each r so; all = one-all r other so }
