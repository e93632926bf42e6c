-- How many keys pass: of all, and of a list. Also the counts that a key set keeps.
use Rattle.std.proofs.Common.{◌≡◌, ℕ, ◌+◌, Bool, false, cond, not, List, [], ◌∷◌, Some, None, refl}
use Rattle.std.proofs.Common.{sym, ap, ◌∙◌, arith, ◌-◌, ◌≤◌, true, map, length, string_bytes, inl}
use Rattle.std.specs.FinMap.{from_entries, find, get, insert, remove, entries, entries_sorted}
use Rattle.std.specs.FinMap.{entries-insert, get-entries, get-insert, get-remove, get-from_entries}
use Rattle.dnssec_zone.specs.Inner.Counts.{bit, count, count_in, share, unlisted_passes}
use Rattle.dnssec_zone.specs.Inner.Counts.{listed_passes, passes, CountsAgree, moves_counts}
use Rattle.dnssec_zone.specs.Inner.Counts.{end_moves_kept, AreCountable}
use Rattle.dnssec_zone.proofs.Quantified.{here-found, later-found, list_any-map, second}
use Rattle.dnssec_zone.proofs.Walks.{AreApart, apart_by_bytes, entries_permute, put_permutes}
use Rattle.std.proofs.lemmas.Bool.{and_right, cases_Bool, cond_both}
use Rattle.std.proofs.{Common.inr, lemmas.Bool.Decides.nat_tests, lemmas.List.Recursion.is_sum_by}
use Rattle.std.proofs.{lemmas.List.Sorted.sum_by-IsPermutation, lemmas.Map.Text.is_eq-slice_cmp}
use Rattle.dnssec_zone.specs.Inner.Counts.{count_of, no_counts, with_key, without_key}
use Rattle.dnssec_zone.specs.Keys.{Keys, keys_in_map, entries_by_bytes, some_key}
use Rattle.dnssec_zone.specs.Start.{is_listed, some_kept, serves_as_kept, Want}
use Rattle.dnssec_zone.specs.declared.index.Counts.{Counts}
use Rattle.dnssec_zone.proofs.Walks.{values_by_bytes, same_keys, IsWalked}
use Rattle.dnssec_zone.proofs.Tests.{some_or_none, alike}
use Rattle.std.specs.Prelude.{Option, ◌&&◌, ◌||◌, T, nat_lt, if◌then◌else◌}
use Rattle.std.specs.Cmp.Lexicographic.{slice_cmp, nat_list_cmp_total, bytes_decides}
use Rattle.std.specs.{Cmp.Lexicographic.nat_list_eq_equiv, declared.string.String.String}
use Rattle.std.specs.{String.string_eq, HashMap.HashMap, HashMap.IsUnique, HashMap.values}
use Rattle.std.specs.{List.list_any, List.fold, List.Sorted.IsPermutation, Option.option_map_or}
use Rattle.std.specs.{Str.bytes_eq, Ordering.nat_cmp, Ordering.eq_by_cmp, FinMap.Entries.is_sorted}
use Rattle.dnssec_key.specs.{declared.kind.KeyType.KeyType, Key.KeyParts, Key.all_states}
use Rattle.dnssec_key.specs.declared.roll.Half.{Half}
use Rattle.dnssec_key.specs.RollTable.{column}
use Rattle.dnssec_key.specs.{RollTable.after_end, Setters.Setting, Setters.set_by}
use Rattle.dnssec_key.specs.declared.roll.PhaseEnd.{PhaseEnd}
use Rattle.dnssec_key.specs.{declared.roll.RollType.RollType, State.is_stale}
use Rattle.std.specs.Int.{from_bool}
use Rattle.std.specs.FinMap as fin

-- a bit is the number of its Bool
pub from_bool-bit : (b : Bool) → from_bool b ≡ bit b
from_bool-bit true = refl
from_bool-bit false = refl

tied : (r q : List ℕ) → bytes_eq r q ≡ eq_by_cmp (slice_cmp nat_cmp) q r
tied r q = nat_list_eq_equiv.symm r q ∙ sym (is_eq-slice_cmp q r)

-- a look-up after the key at r was taken out, or one was put in there
pub get-without : (m : Keys) (r q : List ℕ) → get (remove m r) q
    ≡ (if bytes_eq r q then None else get m q)
get-without m r q = get-remove nat_list_cmp_total m r q
    ∙ ap (λ b. cond b None (get m q)) (sym (tied r q))

pub get-with : (m : Keys) (r q : List ℕ) (x : KeyParts) → get (insert m r x) q
    ≡ (if bytes_eq r q then Some x else get m q)
get-with m r q x = get-insert nat_list_cmp_total m r x q
    ∙ ap (λ b. cond b (Some x) (get m q)) (sym (tied r q))

module _ (p : List ℕ → KeyParts → Bool) where
  -- a count is a sum, whatever the order
  count-permutation : (es fs : List (List ℕ × KeyParts)) → IsPermutation es fs
      → count p fs ≡ count p es
  count-permutation es fs h =
      let sums = is_sum_by (count p) (λ (e : List ℕ × KeyParts). bit (p e.0 e.1)) refl
      (λ e es. refl) in
      sums fs ∙ sum_by-IsPermutation (λ (e : List ℕ × KeyParts). bit (p e.0 e.1)) es fs h
      ∙ sym (sums es)

  -- what is made of entries that are apart counts as they do
  pub count-entries : (es : List (List ℕ × KeyParts)) → AreApart es →
      count_in p (from_entries {R = slice_cmp nat_cmp} es) ≡ count p es
  count-entries es apart = count-permutation es _ (entries_permute es apart)

  -- so a walk over a hash map counts the same
  pub count-shown : {Y S : Type 0} (m : HashMap (String Y) KeyParts S) → IsUnique string_eq m
      → count_in p (keys_in_map m) ≡ count p (entries_by_bytes m)
  count-shown m unique = count-entries (entries_by_bytes m) (apart_by_bytes m.entries unique)

  -- the count is the share of one key and the count of the rest
  pub count-at : (m : Keys) (r : List ℕ) → count_in p m ≡ share p r (get m r)
      + count_in p (remove m r)
  count-at m r = some_or_none
      (λ o. count_in p m ≡ share p r o + count_in p (remove m r)) (get m r)
      (λ none.
      let same : remove m r ≡ m = same_keys _ _ (λ q. grind (arith, bytes_decides, get-without)) in
      omega (arith, ap (count_in p) same))
      (λ x found.
      let back : insert (remove m r) r x ≡ m = same_keys _ _ (λ q. get-with (remove m r) r q x
      ∙ (grind (arith, bytes_decides, get-without))) in
      let free : find (slice_cmp nat_cmp) r (entries (remove m r)) ≡ None =
      sym (get-entries _ r) ∙ get-without m r r ∙ (grind (arith, bytes_decides)) in
      ap (count_in p) (sym back)
      ∙ ap (count p) (entries-insert nat_list_cmp_total (remove m r) r x)
      ∙ count-permutation ((r, x) ∷ entries (remove m r)) _ (put_permutes r x _ free))

  -- a key that is put in, taken out or exchanged changes the count by what it adds
  pub count-changed : (m n : Keys) (r : List ℕ) (o : Option KeyParts)
      → ((q : List ℕ) → get n q ≡ (if bytes_eq r q then o else get m q))
      → count_in p n + share p r (get m r) ≡ count_in p m + share p r o
  count-changed m n r o is =
      let here : get n r ≡ o = grind (arith, bytes_decides, is r) in
      let rest : remove n r ≡ remove m r =
      same_keys _ _ (λ q. grind (arith, get-without, is q)) in
      omega (arith, ap (count_in p) rest, ap (share p r) here, count-at m r, count-at n r)

-- tests that agree on the keys count alike
module _ (p r : List ℕ → KeyParts → Bool) where
  count-alike : (es : List (List ℕ × KeyParts)) → T (is_sorted (slice_cmp nat_cmp) es) →
      ((q : List ℕ) (k : KeyParts) → find (slice_cmp nat_cmp) q es ≡ Some k → p q k ≡ r q k) →
      count p es ≡ count r es
  count-alike [] s h = refl
  count-alike (e ∷ es) s h =
      grind (arith, second, here-found e es, later-found e es s, h, count-alike es)

  pub count-same : (m : Keys) → ((q : List ℕ) (k : KeyParts) → get m q ≡ Some k → p q k ≡ r q k) →
      count_in p m ≡ count_in r m
  count-same m h = count-alike (entries m) (entries_sorted m) (λ q k f. h q k (get-entries m q ∙ f))

-- ---- the keys of a list

module _ (p : KeyType → Bool) where
  -- one more listed key: it counts if it passes and wasn't listed
  pub count-listed : (qs more : List (List ℕ)) (x : List ℕ) (m : Keys)
      → ((q : List ℕ) → is_listed more q ≡ (is_listed qs q || bytes_eq x q))
      → count_in (listed_passes p more) m ≡ count_in (listed_passes p qs) m
      + bit (option_map_or (λ k. p k.keytype && not (is_listed qs x)) (get m x) false)
  count-listed qs more x m grown =
      let rest : count_in (listed_passes p more) (remove m x)
      ≡ count_in (listed_passes p qs) (remove m x) =
      count-same (listed_passes p more) (listed_passes p qs) (remove m x)
      (λ q k f. grind (arith, get-without m x q, grown q)) in
      omega (
        arith,
        rest,
        one (get m x),
        count-at (listed_passes p more) m x,
        count-at (listed_passes p qs) m x,
      )
    where
      one : (o : Option KeyParts) → share (listed_passes p more) x o
          ≡ share (listed_passes p qs) x o
          + bit (option_map_or (λ k. p k.keytype && not (is_listed qs x)) o false)
      one o = grind (arith, bytes_decides, grown x)

  pub none_listed : (m : Keys) → count_in (listed_passes p []) m ≡ 0
  none_listed m = none (entries m)
    where
      none : (es : List (List ℕ × KeyParts)) → count (listed_passes p []) es ≡ 0
      none [] = refl
      none (e ∷ es) = λ i. bit (and_right (p e.1.keytype) false refl i) + none es i

  counted_apart : (qs : List (List ℕ)) (es : List (List ℕ × KeyParts)) → count (passes p) es
      ≡ count (listed_passes p qs) es + count (unlisted_passes p qs) es
  counted_apart qs [] = refl
  counted_apart qs (e ∷ es) = grind (arith, counted_apart qs es)

pub some_counted : (t : List ℕ → KeyParts → Bool) (es : List (List ℕ × KeyParts)) →
    list_any (λ (e : List ℕ × KeyParts). t e.0 e.1) es ≡ nat_lt 0 (count t es)
some_counted t [] = refl
some_counted t (e ∷ es) = grind (arith, nat_tests, some_counted t es)

-- some key passes if at least one is counted
pub some_key-counted : (p : KeyParts → Bool) (keys : Keys)
    → some_key p keys ≡ nat_lt 0 (count_in (λ q. p) keys)
some_key-counted p keys = list_any-map p (λ (e : List ℕ × KeyParts). e.1) (entries keys)
    ∙ some_counted (λ q. p) (entries keys)

-- a test that passes what is put at r if it passes what was there
pub some-alike : (p : KeyParts → Bool) (m n : Keys) (r : List ℕ) (o : Option KeyParts)
    → ((q : List ℕ) → get n q ≡ (if bytes_eq r q then o else get m q))
    → option_map_or p (get m r) false ≡ option_map_or p o false → some_key p n ≡ some_key p m
some-alike p m n r o is same = some_key-counted p n
    ∙ ap (nat_lt 0) (grind (arith, count-changed (λ q. p) m n r o is))
    ∙ sym (some_key-counted p m)

-- a key passes that isn't listed, if more keys pass than those of the list
pub some_kept-counted : (p : KeyType → Bool) (keys : Keys) (qs : List (List ℕ)) →
    some_kept p keys qs ≡ nat_lt (count_in (listed_passes p qs) keys) (count_in (passes p) keys)
some_kept-counted p keys qs = some_counted (unlisted_passes p qs) (entries keys)
    ∙ (grind (arith, nat_tests, counted_apart p qs (entries keys)))

pub ruleset counts = (some_kept-counted)

-- ---- the counts that a key set keeps, as its keys change

-- if the keys can be counted, one more key counts one more
with-of : (t : KeyType) (c : Counts) (w : Want)
    → count_of c w + bit (serves_as_kept w t) ≤ 18446744073709551615
    → count_of (with_key t c) w ≡ count_of c w + bit (serves_as_kept w t)
with-of t c w fits = grind arith

without-of : (t : KeyType) (c : Counts) (w : Want) →
    count_of (without_key t c) w ≡ count_of c w - bit (serves_as_kept w t)
without-of t c w = grind arith

none-of : (w : Want) → count_of no_counts w ≡ 0
none-of w = grind arith

-- a hash map has as many keys as entries
pub all_shown : {Y S : Type 0} (m : HashMap (String Y) KeyParts S) → IsUnique string_eq m
    → count_in (λ q k. true) (keys_in_map m) ≡ length m.entries
all_shown m unique = count-shown (λ q k. true) m unique ∙ all m.entries
  where
    all : {Y : Type 0} (es : List (String Y × KeyParts)) → count (λ q k. true)
        (map (λ (e : String Y × KeyParts). (string_bytes e.0, e.1)) es) ≡ length es
    all [] = refl
    all (e ∷ es) = omega (arith, all es)

-- no more keys meet a want than there are
fits : (keys : Keys) → AreCountable keys → (w : Want)
    → count_in (passes (serves_as_kept w)) keys ≤ 18446744073709551615
fits keys few w = omega (arith, few, at_most (passes (serves_as_kept w)) (entries keys))
  where
    at_most : (p : List ℕ → KeyParts → Bool) (es : List (List ℕ × KeyParts))
        → count p es ≤ count (λ q k. true) es
    at_most p [] = omega arith
    at_most p (e ∷ es) = grind (arith, at_most p es)

pub counts-none : (m : Keys) → ((q : List ℕ) → get m q ≡ None) → CountsAgree no_counts m
counts-none m none w = none-of w ∙ sym (ap (count_in (passes (serves_as_kept w)))
    (same_keys m fin.empty (λ q. none q ∙ sym (get-from_entries nat_list_cmp_total [] q)))
    ∙ count-entries (passes (serves_as_kept w)) [] tt)

-- there are as many keys if one is exchanged
pub countable-exchanged : (m n : Keys) (r : List ℕ) (k l : KeyParts) → get m r ≡ Some k
    → ((q : List ℕ) → get n q ≡ (if bytes_eq r q then Some l else get m q))
    → AreCountable m → AreCountable n
countable-exchanged m n r k l found is few =
    grind (arith, few, found, count-changed (λ q k. true) m n r (Some l) is)

-- a key is put in, taken out or exchanged
module _ (c : Counts) (m n : Keys) (r : List ℕ) (o : Option KeyParts)
    (is : (q : List ℕ) → get n q ≡ (if bytes_eq r q then o else get m q))
    (old : CountsAgree c m) where
  abbrev adds : Want → Option KeyParts → ℕ
  adds w = share (passes (serves_as_kept w)) r

  change : (w : Want) → count_in (passes (serves_as_kept w)) n + adds w (get m r)
      ≡ count_of c w + adds w o
  change w = omega (arith, old w, count-changed (passes (serves_as_kept w)) m n r o is)

  -- it serves as the one before did
  pub counts-alike : ((w : Want) → share (passes (serves_as_kept w)) r (get m r)
      ≡ share (passes (serves_as_kept w)) r o) → CountsAgree c n
  counts-alike same w = omega (arith, change w, same w)

  -- it is new
  pub counts-added : (x : KeyParts) → o ≡ Some x → get m r ≡ None → AreCountable n
      → CountsAgree (with_key x.keytype c) n
  counts-added x here absent few w =
      grind (arith, with-of x.keytype c w, change w, here, absent, fits n few w)

  -- it stands for another one
  pub counts-exchanged : (k l : KeyParts) → get m r ≡ Some k → o ≡ Some l → AreCountable n
      → CountsAgree (with_key l.keytype (without_key k.keytype c)) n
  counts-exchanged k l there here few w =
      grind (
        arith,
        with-of l.keytype (without_key k.keytype c) w,
        without-of k.keytype c w,
        count-at (passes (serves_as_kept w)) m r,
        change w,
        old w,
        fits n few w,
        there,
        here,
      )

-- a setter that moves no count leaves each key to serve as before
set-serves : (setting : Setting) → moves_counts setting ≡ false → (k : KeyParts) (w : Want)
    → serves_as_kept w (set_by setting k).keytype ≡ serves_as_kept w k.keytype
set-serves setting e k w = grind arith

-- a setter has changed the key at a reference
pub counts-set : (setting : Setting) (c : Counts) (m n : Keys) (r : List ℕ) (k : KeyParts)
    → get m r ≡ Some k
    → ((q : List ℕ) → get n q ≡ (if bytes_eq r q then Some (set_by setting k) else get m q))
    → AreCountable n → CountsAgree c m
    → CountsAgree (if moves_counts setting
    then with_key (set_by setting k).keytype (without_key k.keytype c) else c) n
counts-set setting c m n r k found is few old = cond_both (moves_counts setting) _ _
    (λ counts. CountsAgree counts n)
    (λ e. counts-exchanged c m n r _ is old k (set_by setting k) found refl few)
    (λ e. counts-alike c m n r _ is old (λ w. grind (arith, found, set-serves setting e k w)))

module _ {Y S : Type 0} (m n : HashMap (String Y) KeyParts S) (one : IsUnique string_eq m)
    (two : IsUnique string_eq n) {step : KeyParts → KeyParts} (walk : IsWalked step m n) where
  -- a walk after which each key passes as before
  pub count-kept : (p : KeyParts → Bool) → ((k : KeyParts) → p (step k) ≡ p k)
      → count_in (λ q. p) (keys_in_map m) ≡ count_in (λ q. p) (keys_in_map n)
  count-kept p alike =
      rw (count-shown (λ q. p) n two, walk.is, as_many m.entries) (count-shown (λ q. p) m one)
    where
      as_many : (es : List (String Y × KeyParts)) →
          count (λ q. p) (map (λ (e : String Y × KeyParts). (string_bytes e.0, e.1))
          (map (λ (e : String Y × KeyParts). (e.0, step e.1)) es))
          ≡ count (λ q. p) (map (λ (e : String Y × KeyParts). (string_bytes e.0, e.1)) es)
      as_many [] = refl
      as_many (e ∷ es) = λ i. bit (alike e.1 i) + as_many es i

  -- there are as many keys
  pub countable-kept : AreCountable (keys_in_map m) → AreCountable (keys_in_map n)
  countable-kept few = omega (arith, few, count-kept (λ k. true) (λ k. refl))

  pub counts-kept : ((w : Want) (k : KeyParts) → serves_as_kept w (step k).keytype
      ≡ serves_as_kept w k.keytype) → (c : Counts) → CountsAgree c (keys_in_map m)
      → CountsAgree c (keys_in_map n)
  counts-kept alike c old w =
      old w ∙ count-kept (λ k. serves_as_kept w k.keytype) (alike w)

-- the counts by a walk
folded : (w : Want) (es : List (List ℕ × KeyParts)) (c : Counts)
    → count_of c w + count (passes (serves_as_kept w)) es ≤ 18446744073709551615
    → count_of (fold (λ c k. with_key k.keytype c) c (map (λ e. e.1) es)) w
    ≡ count_of c w + count (passes (serves_as_kept w)) es
folded w [] c fits = omega arith
folded w (e ∷ es) c fits =
    let one = with-of e.1.keytype c w (omega (arith, fits)) in
    folded w es (with_key e.1.keytype c) (omega (arith, one, fits)) ∙ omega (arith, one)

pub counts-walked : {Y S : Type 0} (m : HashMap (String Y) KeyParts S) → IsUnique string_eq m
    → length m.entries ≤ 18446744073709551615
    → CountsAgree (fold (λ c k. with_key k.keytype c) no_counts (values m)) (keys_in_map m)
counts-walked m unique few w =
    let these = count-shown (passes (serves_as_kept w)) m unique in
    let fit = fits (keys_in_map m) (omega (arith, few, all_shown m unique)) w in
    rw (← values_by_bytes m.entries) (folded w (entries_by_bytes m) no_counts
    (omega (arith, none-of w, these, fit)) ∙ omega (arith, none-of w, these))

-- ---- what moves no count: a phase's end that changes no flag that a count asks for, a stale key

-- a stale key serves for nothing
pub stale-serves : (t : KeyType) → all_states is_stale t ≡ true → (w : Want)
    → serves_as_kept w t ≡ false
stale-serves t stale w = grind arith

-- the end of a phase that moves no count leaves each key to serve as before
kept-moves : (end : PhaseEnd) (roll : RollType) (half : Half) (now : ℕ) (w : Want) (k : KeyParts)
    → end_moves_kept end roll half ≡ false
    → serves_as_kept w (after_end end roll half now k).keytype ≡ serves_as_kept w k.keytype
unfolding column
kept-moves end roll half now w k e = grind arith

-- the counts after the end of a phase; they are counted again if it may change them
pub counts-ended : {Y S : Type 0} (end : PhaseEnd) (roll : RollType) (half : Half) (now : ℕ)
    (before after : Counts) (m n : HashMap (String Y) KeyParts S) → IsUnique string_eq m
    → IsUnique string_eq n → IsWalked (after_end end roll half now) m n
    → CountsAgree before (keys_in_map m)
    → (end_moves_kept end roll half ≡ true → CountsAgree after (keys_in_map n))
    → (end_moves_kept end roll half ≡ false → after ≡ before) → CountsAgree after (keys_in_map n)
counts-ended end roll half now before after m n one two walk old moved kept =
    elim (cases_Bool (end_moves_kept end roll half)) [
      | inl e ↦ moved e
      | inr e ↦ rw (kept e) (counts-kept m n one two walk
          (λ w k. kept-moves end roll half now w k e) before old)
    ]
