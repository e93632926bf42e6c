-- The latest of the moments from which a wait is over for keys: what a walk finds, what it answers
-- to a wait, and how it follows a key that changes or goes.
use Rattle.std.proofs.Common.{◌≡◌, ℕ, ◌≤◌, ◌+◌, Bool, true, false, List, [], ◌∷◌, Some, refl}
use Rattle.std.proofs.Common.{sym, ◌∙◌, max, arith, not, min, None, ap, map}
use Rattle.std.specs.Prelude.{is_some, nat_lt, Option, is_none, ◌*◌, ◌-◌, ◌&&◌, ◌||◌, if◌then◌else◌}
use Rattle.std.specs.Prelude.{unwrap_or, IfNone, IfSome}
use Rattle.std.specs.{List.list_any, List.fold, FinMap.get, FinMap.remove, FinMap.values}
use Rattle.std.specs.{FinMap.entries, Option.option_map_or}
use Rattle.std.specs.{Str.bytes_eq}
use Rattle.std.specs.HashMap.{HashMap, IsUnique, values as hash_values}
use Rattle.std.specs.{String.string_eq, declared.string.String.String}
use Rattle.std.proofs.lemmas.Bool.{false≢true, or_from, or_left, or_right, cond_both}
use Rattle.std.proofs.lemmas.Bool.Decides.{nat_tests}
use Rattle.dnssec_key.specs.declared.roll.Half.{Half}
use Rattle.dnssec_key.specs.{Key.KeyParts, Key.all_states, RollTable.column}
use Rattle.dnssec_key.specs.{RollTable.half_of, declared.roll.RollType.RollType}
use Rattle.dnssec_key.specs.{declared.kind.KeyType.KeyType, State.is_stale}
use Rattle.dnssec_zone.specs.Wait.{early_by, lacks_stamp, time_left}
use Rattle.dnssec_zone.specs.Wait.{wait_in_phase, IsOverFrom, LacksStamp}
use Rattle.dnssec_zone.specs.{Keys.Keys, Keys.keys_in_map, Keys.some_key}
use Rattle.dnssec_zone.specs.Inner.Over.{over_at, later}
use Rattle.dnssec_zone.specs.Inner.Reported.{IsLatest, moved}
use Rattle.dnssec_zone.specs.Inner.Counts.{count}
use Rattle.dnssec_zone.proofs.{Walks.some_key-shown, Tests.some_or_none}
use Rattle.dnssec_zone.proofs.Counted.{some-alike, some_key-counted, count-at}
use Rattle.dnssec_zone.proofs.Counted.{count-changed}
use Rattle.dnssec_zone.proofs.Longest.{longest-by, none-left, some-left}

module _ (f : KeyParts → Option ℕ) where
  -- a key has no moment
  abbrev pub lacks : KeyParts → Bool
  lacks k = is_none (f k)

  -- a key's moment is past n
  abbrev pub past : ℕ → KeyParts → Bool
  past n k = nat_lt n (unwrap_or (f k) 0)

  -- the latest moment so far, and that of a key
  abbrev pub step : Option ℕ → KeyParts → Option ℕ
  step a k = later a (f k)

  -- ---- the walk

  lost : (ks : List KeyParts) → fold step None ks ≡ None
  lost [] = refl
  lost (k ∷ ks) = lost ks

  -- a walk that finds a key without a moment
  pub walk-lost : (a : Option ℕ) (k : KeyParts) (ks : List KeyParts) → f k ≡ None
      → fold step a (k ∷ ks) ≡ None
  walk-lost None k ks absent = lost ks
  walk-lost (Some a) k ks absent = ap (λ o. fold step (later (Some a) o) ks) absent ∙ lost ks

  -- what a walk finds if it begins at a
  abbrev Finds : List KeyParts → ℕ → Option ℕ → Type 0
  Finds ks a None = list_any lacks ks ≡ true
  Finds ks a (Some end) = (list_any lacks ks ≡ false)
      × ((n : ℕ) → (nat_lt n a || list_any (past n) ks) ≡ nat_lt n end)

  finds : (ks : List KeyParts) (a : ℕ) → Finds ks a (fold step (Some a) ks)
  finds [] a = (refl, λ n. grind arith)
  finds (k ∷ ks) a = some_or_none
      (λ o. Finds (k ∷ ks) a (fold step (later (Some a) o) ks)) (f k)
      (λ e. rw (lost ks) (or_left _ _ (ap is_none e)))
      (λ m e. more m e _ (finds ks (max a m)))
    where
      more : (m : ℕ) → f k ≡ Some m → (o : Option ℕ) → Finds ks (max a m) o → Finds (k ∷ ks) a o
      more m e None missing = or_right _ _ missing
      more m e (Some end) rest = (
        or_from _ _ (ap is_none e) rest.0,
        λ n. grind (arith, nat_tests, rest.1 n, e),
      )

  -- so a walk over a hash map finds the latest
  pub walked : {Y S : Type 0} (m : HashMap (String Y) KeyParts S) → IsUnique string_eq m
      → (o : Option ℕ) → o ≡ fold step (Some 0) (hash_values m) → IsLatest f (keys_in_map m) o
  walked m unique o is = found o (rw is (finds (hash_values m) 0))
    where
      found : (o : Option ℕ) → Finds (hash_values m) 0 o → IsLatest f (keys_in_map m) o
      found None missing = record {
        lacks = some_key-shown lacks m unique ∙ missing;
        past = tt;
      }
      found (Some end) h = record {
        lacks = some_key-shown lacks m unique ∙ h.0;
        past = λ n. some_key-shown (past n) m unique ∙ (grind (arith, nat_tests, h.1 n));
      }

  -- ---- a key is put in, taken out or exchanged

  -- what is seen at a reference; of no key what is seen of one that is over at once
  abbrev pub seen : Option KeyParts → Option ℕ
  seen o = option_map_or f o (Some 0)

  seen-lacks : (o : Option KeyParts) → option_map_or lacks o false ≡ is_none (seen o)
  seen-lacks None = refl
  seen-lacks (Some k) = refl

  seen-past : (n : ℕ) (o : Option KeyParts)
      → option_map_or (past n) o false ≡ nat_lt n (unwrap_or (seen o) 0)
  seen-past n None = grind (arith, nat_tests)
  seen-past n (Some k) = refl

  -- no change is seen
  pub latest-alike : (m n : Keys) (r : List ℕ) (o : Option KeyParts)
      → ((q : List ℕ) → get n q ≡ (if bytes_eq r q then o else get m q))
      → seen (get m r) ≡ seen o → (x : Option ℕ) → IsLatest f m x → IsLatest f n x
  latest-alike m n r o is same x old = record {
    lacks = some-alike lacks m n r o is (seen-lacks (get m r) ∙ ap is_none same
        ∙ sym (seen-lacks o)) ∙ old.lacks;
    past = follow x old.past;
  }
    where
      follow : (x : Option ℕ)
          → IfSome x (λ end. (n : ℕ) → some_key (past n) m ≡ nat_lt n end)
          → IfSome x (λ end. (i : ℕ) → some_key (past i) n ≡ nat_lt i end)
      follow None h = tt
      follow (Some end) h = λ i. some-alike (past i) m n r o is (seen-past i (get m r)
          ∙ ap (λ s. nat_lt i (unwrap_or s 0)) same ∙ sym (seen-past i o)) ∙ h i

-- no more keys are past a later moment
fewer : (f : KeyParts → Option ℕ) (i b : ℕ) → i ≤ b → (es : List (List ℕ × KeyParts))
    → count (λ q. past f b) es ≤ count (λ q. past f i) es
fewer f i b less [] = omega arith
fewer f i b less (e ∷ es) = grind (arith, nat_tests, fewer f i b less es)

-- a key's moment changes, and the latest follows
follows : (f : KeyParts → Option ℕ) (m n : Keys) (r : List ℕ) (k l : KeyParts) (b a end : ℕ)
    → get m r ≡ Some k
    → ((q : List ℕ) → get n q ≡ (if bytes_eq r q then Some l else get m q))
    → f k ≡ Some b → f l ≡ Some a → (nat_lt b end || not (nat_lt a b)) ≡ true
    → IsLatest f m (Some end) → IsLatest f n (Some (max end a))
follows f m n r k l b a end found is was now known old = record {
  lacks = some-alike (lacks f) m n r (Some l) is (grind (arith, found, was, now)) ∙ old.lacks;
  past = λ i. grind (
    arith,
    nat_tests,
    some_key-counted (past f i) m,
    some_key-counted (past f i) n,
    some_key-counted (past f b) m,
    count-at (λ q. past f i) m r,
    count-at (λ q. past f b) m r,
    count-changed (λ q. past f i) m n r (Some l) is,
    (λ (less : i ≤ b). fewer f i b less (entries (remove m r))),
    found,
    was,
    now,
    known,
    old.past i,
    old.past b,
  );
}

-- the same by what is answered of the latest, if it is
pub latest-moved : (f : KeyParts → Option ℕ) (m n : Keys) (r : List ℕ) (k l : KeyParts)
    → get m r ≡ Some k
    → ((q : List ℕ) → get n q ≡ (if bytes_eq r q then Some l else get m q))
    → (b a end : Option ℕ) → f k ≡ b → f l ≡ a → is_some (moved b a end) ≡ true
    → IsLatest f m end → IsLatest f n (moved b a end)
latest-moved f m n r k l found is None a end was now known old = absurd (false≢true known)
latest-moved f m n r k l found is (Some b) None end was now known old =
    absurd (false≢true known)
latest-moved f m n r k l found is (Some b) (Some a) None was now known old =
    absurd (false≢true known)
latest-moved f m n r k l found is (Some b) (Some a) (Some end) was now known old =
    cond_both (nat_lt b end || not (nat_lt a b)) (Some (max end a)) None
    (λ o. is_some o ≡ true → IsLatest f n o)
    (λ e some. follows f m n r k l b a end found is was now e old)
    (λ e some. absurd (false≢true some)) known

-- tests that agree on each key
some-same : (p q : KeyParts → Bool) (keys : Keys) → ((k : KeyParts) → p k ≡ q k)
    → some_key p keys ≡ some_key q keys
some-same p q keys same = λ i. list_any (λ k. same k i) (values keys)

-- ---- what the latest answers to a wait

-- what is left of a span of time at a moment, by the moment from which nothing is
abbrev pub left_of : ℕ → ℕ → ℕ → ℕ
left_of span now end = min span (end - now)

module _ (roll : RollType) (half : Half) (ttl : ℕ) where
  missing-same : (k : KeyParts) → lacks_stamp roll half k ≡ lacks (over_at roll half ttl) k
  missing-same k = grind arith

  -- without a TTL no key holds a wait up
  at-once : (k : KeyParts) → ttl ≡ 0 → unwrap_or (over_at roll half ttl k) 0 ≤ 0
  at-once k none = grind (arith, nat_tests)

  -- what is left for a key at a moment
  left-over : (now : ℕ) (k : KeyParts) → time_left roll half ttl now k
      ≡ left_of (ttl * 1_000_000_000) now (unwrap_or (over_at roll half ttl k) 0)
  left-over now k = grind (arith, nat_tests)

  more-left : (span now n end : ℕ)
      → nat_lt n (left_of span now end) ≡ (nat_lt n span && nat_lt (n + now) end)
  more-left span now n end = grind (arith, nat_tests)

  both : (b : Bool) (p : KeyParts → Bool) (ks : List KeyParts)
      → list_any (λ k. b && p k) ks ≡ (b && list_any p ks)
  both true p ks = refl
  both false p [] = refl
  both false p (k ∷ ks) = both false p ks

  module _ (keys : Keys) where
    longest : (now end : ℕ)
        → ((n : ℕ) → some_key (past (over_at roll half ttl) n) keys ≡ nat_lt n end)
        → fold max 0 (map (time_left roll half ttl now) (values keys))
        ≡ left_of (ttl * 1_000_000_000) now end
    longest now end is = longest-by (time_left roll half ttl now) (values keys) _ (λ n.
        some-same _ _ keys (λ k. ap (nat_lt n) (left-over now k) ∙ more-left _ now n _)
        ∙ both (nat_lt n (ttl * 1_000_000_000)) (past (over_at roll half ttl) (n + now))
        (values keys)
        ∙ ap (λ b. nat_lt n (ttl * 1_000_000_000) && b) (is (n + now))
        ∙ sym (more-left _ now n end))

    -- without a TTL a wait is over from the first moment on
    first : (end : ℕ)
        → ((n : ℕ) → some_key (past (over_at roll half ttl) n) keys ≡ nat_lt n end)
        → ttl ≡ 0 → end ≤ 0
    first end is none =
        let never : some_key (past (over_at roll half ttl) 0) keys ≡ false =
        some-same _ (λ k. false) keys (λ k. grind (arith, nat_tests, at-once k none))
        ∙ both false (λ k. false) (values keys) in
        grind (arith, nat_tests, is 0, never)

    -- a missing stamp bars the wait
    pub latest-lacks : IsLatest (over_at roll half ttl) keys None → LacksStamp roll half ttl keys
    latest-lacks is now = rw (some-same _ _ keys missing-same, is.lacks) refl

    -- else it is over from the latest moment on
    pub latest-over : (end : ℕ) → IsLatest (over_at roll half ttl) keys (Some end)
        → IsOverFrom roll half ttl keys end
    latest-over end is = record {
      early = λ now less. left now
          ∙ some-left _ (grind (arith, less, first end is.past));
      over = λ now late. left now ∙ none-left _ (omega (arith, late));
    }
      where
        left : (now : ℕ) → wait_in_phase roll half (Some ttl) now keys
            ≡ early_by (left_of (ttl * 1_000_000_000) now end)
        left now = rw (some-same _ _ keys missing-same, is.lacks, longest now end is.past) refl

    -- so much for either
    pub latest-is : (o : Option ℕ) → IsLatest (over_at roll half ttl) keys o
        → IfSome o (IsOverFrom roll half ttl keys) × IfNone o (LacksStamp roll half ttl keys)
    latest-is None is = (tt, latest-lacks is)
    latest-is (Some end) is = (latest-over end is, tt)

-- ---- a stale key that goes

-- no wait checks it
pub stale-unchecked : (roll : RollType) (half : Half) (t : KeyType) → all_states is_stale t ≡ true
    → (half_of roll half).checks t ≡ false
unfolding column
stale-unchecked roll half t stale = grind arith
