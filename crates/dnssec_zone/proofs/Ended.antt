-- How many keys have each end of a wait: as a walk counts them, as a key changes, and what the last
-- end says.
use Rattle.std.proofs.Common.{◌≡◌, ℕ, ◌+◌, ◌-◌, ◌<◌, ◌≤◌, List, [], ◌∷◌, Some, None, refl, sym}
use Rattle.std.proofs.Common.{ap, ◌∙◌, arith, Bool, map, string_bytes, inl, inr}
use Rattle.std.proofs.lemmas.Bool.{cases_lt}
use Rattle.std.proofs.lemmas.Bool.Decides.{nat_tests}
use Rattle.std.specs.Prelude.{Option, IfSome, false, true, is_none, nat_eq, nat_lt, unwrap_or}
use Rattle.std.specs.Prelude.{if◌then◌else◌}
use Rattle.std.specs.{FinMap.entries, FinMap.get, Option.option_eq, Str.bytes_eq}
use Rattle.std.specs.HashMap.{HashMap, IsUnique, values}
use Rattle.std.specs.{String.string_eq, declared.string.String.String}
use Rattle.dnssec_key.specs.{Key.KeyParts, Key.all_states, State.is_stale}
use Rattle.dnssec_zone.specs.Inner.Counts.{bit, count, count_in, share}
use Rattle.dnssec_zone.specs.Inner.Ends.{AreEndsOf, AreHad, IsLast, is_first, number}
use Rattle.dnssec_zone.specs.Inner.Reported.{IsKnown, IsLatest, over_by, over_for}
use Rattle.dnssec_zone.specs.declared.ends.CountedEnds.{CountedEnds}
use Rattle.dnssec_zone.specs.declared.wait_end.ReportedWait.{ReportedWait}
use Rattle.dnssec_zone.specs.Keys.{Keys, keys_in_map, some_key}
use Rattle.dnssec_zone.proofs.Counted.{count-at, count-changed, count-shown, some_key-counted}
use Rattle.dnssec_zone.proofs.Latest.{lacks, latest-alike, past, seen, stale-unchecked}

module _ (f : KeyParts → Option ℕ) where
  -- a key has this end
  abbrev pub has : Option ℕ → KeyParts → Bool
  has end k = option_eq nat_eq (f k) end

  -- how many keys of a list have it
  abbrev pub having : Option ℕ → List KeyParts → ℕ
  having end [] = 0
  having end (k ∷ ks) = bit (has end k) + having end ks

  -- ---- the walk

  alike : {Y : Type 0} (end : Option ℕ) (es : List (String Y × KeyParts))
      → count (λ q. has end) (map (λ (e : String Y × KeyParts). (string_bytes e.0, e.1)) es)
      ≡ having end (map (λ (e : String Y × KeyParts). e.1) es)
  alike end [] = refl
  alike end (e ∷ es) = ap (λ n. bit (has end e.1) + n) (alike end es)

  -- a walk over a hash map counts the ends of its keys
  pub ends-walked : {Y S : Type 0} (m : HashMap (String Y) KeyParts S) → IsUnique string_eq m
      → (ends : CountedEnds) → AreHad ends
      → ((end : Option ℕ) → is_first end ≡ false → number ends end ≡ having end (values m))
      → AreEndsOf f (keys_in_map m) ends
  ends-walked m unique ends had is = record {
    had = had;
    counted = λ end later. is end later
        ∙ sym (count-shown (λ q. has end) m unique ∙ alike end m.entries);
  }

  -- ---- a key changes

  pub ends-changed : (m n : Keys) (r : List ℕ) (k l : KeyParts) → get m r ≡ Some k
      → ((q : List ℕ) → get n q ≡ (if bytes_eq r q then Some l else get m q))
      → (old new : CountedEnds) → AreHad new
      → ((end : Option ℕ) → is_first end ≡ false → number new end
      ≡ number old end - bit (has end k) + bit (has end l))
      → AreEndsOf f m old → AreEndsOf f n new
  ends-changed m n r k l found is old new had moves known = record {
    had = had;
    counted = λ end later. grind (
      arith,
      moves end later,
      known.counted end later,
      count-at (λ q. has end) m r,
      count-changed (λ q. has end) m n r (Some l) is,
      found,
    );
  }

  -- no change is seen
  pub ends-alike : (m n : Keys) (r : List ℕ) (o : Option KeyParts)
      → ((q : List ℕ) → get n q ≡ (if bytes_eq r q then o else get m q))
      → seen f (get m r) ≡ seen f o → (ends : CountedEnds) → AreEndsOf f m ends → AreEndsOf f n ends
  ends-alike m n r o is same ends known = record {
    had = known.had;
    counted = λ end later. omega (
      arith,
      known.counted end later,
      count-changed (λ q. has end) m n r o is,
      adds end later (get m r),
      adds end later o,
      ap (λ x. bit (option_eq nat_eq x end)) same,
    );
  }
    where
      adds : (end : Option ℕ) → is_first end ≡ false → (o : Option KeyParts)
          → share (λ q. has end) r o ≡ bit (option_eq nat_eq (seen f o) end)
      adds end later None = sym (ap bit later)
      adds end later (Some k) = refl

  -- ---- the last end

  lacking : (o : Option ℕ) → option_eq nat_eq o None ≡ is_none o
  lacking None = refl
  lacking (Some x) = refl

  -- no key is past a moment if none has a later end
  none-past : (n : ℕ) (es : List (List ℕ × KeyParts))
      → ((x : ℕ) → n < x → count (λ q. has (Some x)) es ≡ 0) → count (λ q. past f n) es ≡ 0
  none-past n [] none = refl
  none-past n (e ∷ es) none = grind (
    arith,
    nat_tests,
    none (unwrap_or (f e.1) 0),
    none-past n es (λ x later. omega (arith, none x later)),
  )

  -- a key with a later end is past it
  some-past : (n x : ℕ) → n < x → (es : List (List ℕ × KeyParts))
      → count (λ q. has (Some x)) es ≤ count (λ q. past f n) es
  some-past n x later [] = omega arith
  some-past n x later (e ∷ es) = grind (arith, nat_tests, some-past n x later es)

  module _ (keys : Keys) (ends : CountedEnds) (known : AreEndsOf f keys ends) where
    lack : some_key (lacks f) keys ≡ nat_lt 0 (number ends None)
    lack = some_key-counted (lacks f) keys
        ∙ ap (λ p. nat_lt 0 (count_in (λ q. p) keys)) (λ i k. sym (lacking (f k)) i)
        ∙ ap (nat_lt 0) (sym (known.counted None refl))

    later : (end n : ℕ) → IsLast ends (Some end) → some_key (past f n) keys ≡ nat_lt n end
    later end n last = elim (cases_lt n end) [
      | inl less ↦ some_key-counted (past f n) keys ∙ (grind (
        arith,
        nat_tests,
        last.2,
        known.counted (Some end) (grind (arith, nat_tests, less)),
        some-past n end less (entries keys),
      ))
      | inr ge ↦ some_key-counted (past f n) keys ∙ (grind (
        arith,
        nat_tests,
        none-past n (entries keys) (λ x more. sym (known.counted (Some x)
            (grind (arith, nat_tests, more))) ∙ last.1 x (omega (arith, more, ge))),
      ))
    ]

    -- the last end is the latest moment
    pub last-latest : (o : Option ℕ) → IsLast ends o → IsLatest f keys o
    last-latest None some = record {
      lacks = lack ∙ (grind (arith, nat_tests, some));
      past = tt;
    }
    last-latest (Some end) last = record {
      lacks = lack ∙ (grind (arith, nat_tests, last.0));
      past = λ n. later end n last;
    }

-- ---- what is known of a wait, after a key has changed or gone

-- no change is seen
pub known-alike : (m n : Keys) (r : List ℕ) (o : Option KeyParts)
    → ((q : List ℕ) → get n q ≡ (if bytes_eq r q then o else get m q))
    → (known : Option ReportedWait) → seen (over_for known) (get m r) ≡ seen (over_for known) o
    → IsKnown known m → IsKnown known n
known-alike m n r o is None same old = tt
known-alike m n r o is (Some wait) same old = (
  latest-alike (over_by wait) m n r o is same wait.over old.0,
  ends wait.ends old.1,
)
  where
    ends : (kept : Option CountedEnds) → IfSome kept (AreEndsOf (over_by wait) m)
        → IfSome kept (AreEndsOf (over_by wait) n)
    ends None known = tt
    ends (Some kept) known = ends-alike (over_by wait) m n r o is same kept known

-- a stale key goes, which no wait checks
pub known-removed : (m n : Keys) (r : List ℕ) (k : KeyParts) → get m r ≡ Some k
    → ((q : List ℕ) → get n q ≡ (if bytes_eq r q then None else get m q))
    → all_states is_stale k.keytype ≡ true
    → (known : Option ReportedWait) → IsKnown known m → IsKnown known n
known-removed m n r k found is stale None old = tt
known-removed m n r k found is stale (Some wait) old =
    let none = stale-unchecked wait.roll wait.half k.keytype stale in
    known-alike m n r None is (Some wait)
    (ap (seen (over_by wait)) found ∙ (grind (arith, none))) old
