-- What is read anew: in a list each key by itself; in a tree the listings that change are put in
-- one by one, and then each key has what its flags say.
use Rattle.std.proofs.Common.{◌≡◌, ◌∙◌, ℕ, Bool, true, false, cond, List, [], ◌∷◌, None, Some}
use Rattle.std.proofs.Common.{refl, sym, ap, subst, arith, string_bytes, drop}
use Rattle.std.proofs.Common.{slice_set, zero, suc, get_or, length, map, ◌+◌, ◌<◌}
use Rattle.std.proofs.lemmas.List.{at_drop_more}
use Rattle.std.proofs.lemmas.Map.Text.{is_eq-slice_cmp}
use Rattle.std.specs.{Prelude.Option, Prelude.T, Str.bytes_eq, Ordering.is_eq}
use Rattle.std.specs.{FinMap.Entries.below_all, Option.option_map, declared.string.String.String}
use Rattle.dnssec_key.specs.Key.{KeyParts}
use Rattle.dnssec_zone.proofs.Quantified.{first, same_key, second}
use Rattle.dnssec_run.specs.declared.lists.{Known.Known, KeyListing.KeyListing}
use Rattle.dnssec_run.specs.{ByList.ByList, declared.lists.Change.Change}
use Rattle.dnssec_run.specs.Adds.{IsAscending, Listed, change_read, listing_of, reread, reread_at}
use Rattle.dnssec_run.specs.Adds.{listed_of, set_shown}
use Rattle.dnssec_run.specs.Lists.{lists_of, same_lists}
use Rattle.dnssec_run.proofs.{OneKey.same-test, Positions.less-apart}
use Rattle.dnssec_run.proofs.Positions.{both, order}
use denote.Ref.{Bor}

-- ---- a list

-- what is found among keys that are read anew is what is found, read anew
pub read-found : (key : List ℕ → Option KeyParts) (es : List Listed) (q : List ℕ)
    → listing_of (map (reread_at key) es) q ≡ option_map (reread (key q)) (listing_of es q)
read-found key [] q = refl
read-found key (e ∷ es) q = by (read-found key es q) (is_eq (order q e.0)) refl
  where
    by : listing_of (map (reread_at key) es) q ≡ option_map (reread (key q)) (listing_of es q)
        → (t : Bool) → is_eq (order q e.0) ≡ t
        → cond t (Some (reread (key e.0) e.1)) (listing_of (map (reread_at key) es) q)
        ≡ option_map (reread (key q)) (cond t (Some e.1) (listing_of es q))
    by rest true t = ap (λ x. Some (reread (key x) e.1)) (sym (same_key q e.0 t))
    by rest false t = rest

-- a key with another listing has the same place
module _ (n : KeyListing) where
  below-again : (x : List ℕ) (keys : List Known) (i : ℕ) (d : Known)
      → T (below_all order x (map listed_of keys))
      → T (below_all order x (map listed_of
      (slice_set keys i record { listing = n; reference = (get_or keys i d).reference })))
  below-again x [] i d h = h
  below-again x (y ∷ ys) zero d h = h
  below-again x (y ∷ ys) (suc i) d h =
      both _ _ (first _ _ h) (below-again x ys i d (second _ _ h))

  pub ascending-again : (keys : List Known) (i : ℕ) (d : Known) → IsAscending (map listed_of keys)
      → IsAscending (map listed_of
      (slice_set keys i record { listing = n; reference = (get_or keys i d).reference }))
  ascending-again [] i d h = h
  ascending-again (y ∷ ys) zero d h = h
  ascending-again (y ∷ ys) (suc i) d h = both _ _
      (below-again (string_bytes y.reference) ys i d (first _ _ h))
      (ascending-again ys i d (second _ _ h))

-- ---- a tree

-- a reference with the flags of its key, if there is one
abbrev pub Seen : Type 0
Seen = List ℕ × Option KeyParts

-- a key before others, if its listing changes
abbrev pub with_move : Option Change → Seen → List Seen → List Seen
with_move None m ms = ms
with_move (Some c) m ms = m ∷ ms

-- the keys whose listing changes
abbrev pub moves_of : (List ℕ → Option KeyParts) → List Listed → List Seen
moves_of key [] = []
moves_of key (e ∷ es) =
    with_move (change_read (key e.0) e.1) (e.0, key e.0) (moves_of key es)

-- as it is collected
abbrev pub move_lent : {Y : Type 0} → Bor (String Y) × Bor KeyParts → Seen
move_lent m = (string_bytes m.0.now, Some m.1.now)

-- what is known of a key after these are read anew one by one, if it was there
abbrev pub moved_to : List Seen → List ℕ → Option KeyListing → Option KeyListing
moved_to [] q at = at
moved_to (m ∷ ms) q at =
    moved_to ms q (cond (bytes_eq m.0 q) (option_map (reread m.1) at) at)

-- ---- what doesn't change

same-lists : (a b : ByList) → same_lists a b ≡ true → a ≡ b
same-lists a b h = grind arith

change-none : (b : Bool) (c : Change) → cond b None (Some c) ≡ None → b ≡ true
change-none b c h = grind arith

stays : (k : Option KeyParts) (l : KeyListing) → change_read k l ≡ None → reread k l ≡ l
stays None l h = refl
stays (Some k) l h = ap (λ (lists : ByList). set_shown lists l)
    (sym (same-lists l.shown (lists_of k.keytype) (change-none _ _ h)))

module _ (key : List ℕ → Option KeyParts) where
  passes-by : (o : Option Change) (m : Seen) (ms : List Seen) (q : List ℕ)
      (at : Option KeyListing) → bytes_eq m.0 q ≡ false
      → moved_to (with_move o m ms) q at ≡ moved_to ms q at
  passes-by None m ms q at apart = refl
  passes-by (Some c) m ms q at apart =
      ap (λ b. moved_to ms q (cond b (option_map (reread m.1) at) at)) apart

  same-apart : (x q : List ℕ) (b : Bool) → is_eq (order q x) ≡ b → bytes_eq x q ≡ b
  same-apart x q b h = sym (is_eq-slice_cmp x q) ∙ sym (same-test q x) ∙ h

  -- a key that comes before all of them isn't touched
  untouched : (q : List ℕ) (es : List Listed) (at : Option KeyListing) → T (below_all order q es)
      → moved_to (moves_of key es) q at ≡ at
  untouched q [] at below = refl
  untouched q (e ∷ es) at below =
      passes-by (change_read (key e.0) e.1) (e.0, key e.0) (moves_of key es) q at
      (same-apart e.0 q false (less-apart (order q e.0) (first _ _ below)))
      ∙ untouched q es at (second _ _ below)

  here : (o : Option Change) (x q : List ℕ) (l : KeyListing) (es : List Listed)
      → bytes_eq x q ≡ true → T (below_all order q es) → change_read (key x) l ≡ o
      → moved_to (with_move o (x, key x) (moves_of key es)) q (Some l)
      ≡ Some (reread (key x) l)
  here None x q l es same below is =
      untouched q es (Some l) below ∙ ap (λ l. Some l) (sym (stays (key x) l is))
  here (Some c) x q l es same below is =
      ap (λ b. moved_to (moves_of key es) q (cond b (Some (reread (key x) l)) (Some l))) same
      ∙ untouched q es (Some (reread (key x) l)) below

  -- so after all of them each key has what its flags say
  pub all-moved : (es : List Listed) (q : List ℕ) → IsAscending es
      → moved_to (moves_of key es) q (listing_of es q)
      ≡ option_map (reread (key q)) (listing_of es q)
  all-moved [] q up = refl
  all-moved (e ∷ es) q up =
      by (all-moved es q (second _ _ up)) (is_eq (order q e.0)) refl
    where
      by : moved_to (moves_of key es) q (listing_of es q)
          ≡ option_map (reread (key q)) (listing_of es q)
          → (t : Bool) → is_eq (order q e.0) ≡ t
          → moved_to (moves_of key (e ∷ es)) q (cond t (Some e.1) (listing_of es q))
          ≡ option_map (reread (key q)) (cond t (Some e.1) (listing_of es q))
      by rest true t =
          let is : e.0 ≡ q = sym (same_key q e.0 t) in
          here (change_read (key e.0) e.1) e.0 q e.1 es (same-apart e.0 q true t)
          (subst (λ x. T (below_all order x es)) is (first _ _ up)) refl
          ∙ ap (λ x. Some (reread (key x) e.1)) is
      by rest false t = passes-by (change_read (key e.0) e.1) (e.0, key e.0) (moves_of key es) q
          (listing_of es q) (same-apart e.0 q false t) ∙ rest

-- ---- the next that is put in

module _ {Y : Type 0} (ms : List (Bor (String Y) × Bor KeyParts)) (i : ℕ)
    (m : Bor (String Y) × Bor KeyParts) (lt : i < length ms) (is : get_or ms i m ≡ m) where
  pub moves-next : (q : List ℕ) (at now : Option KeyListing)
      → now ≡ cond (bytes_eq (string_bytes m.0.now) q)
      (option_map (reread (Some m.1.now)) at) at
      → moved_to (map move_lent (drop (i + 1) ms)) q now ≡ moved_to (map move_lent (drop i ms)) q at
  moves-next q at now put = ap (moved_to (map move_lent (drop (i + 1) ms)) q) put
      ∙ sym (at_drop_more (λ l. moved_to (map move_lent l) q at) ms i m lt
      ∙ ap (λ m. moved_to (map move_lent (m ∷ drop (i + 1) ms)) q at) is)
