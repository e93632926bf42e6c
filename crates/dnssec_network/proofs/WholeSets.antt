-- The course keeps sets whole, is plain, and is made by the clock. For `premises_can_be_met`.
use Rattle.std.proofs.Common.{◌≡◌, ℕ, zero, suc, ◌+◌, ◌*◌, ◌<◌, ◌≤◌, ◌⊎◌, inl, inr, Bool}
use Rattle.std.proofs.Common.{List, [], ◌∷◌, length, take, drop, Option, None, Some, true}
use Rattle.std.proofs.Common.{false, ◌&&◌, ◌||◌, refl, sym, ap, ◌∙◌, subst, arith, Global}
use Rattle.std.proofs.Common.{slice_index_or, slice_get, nat_eq, nat_le, true≢false, is_none, cond}
use Rattle.std.proofs.lemmas.{Option.none-some, Option.same_Some, Bool.cases_Bool}
use Rattle.std.specs.{FinMap.find, FinMap.get, List.Contains, Option.option_map_or}
use Rattle.std.specs.Ordering.{eq_by_cmp}
use Rattle.dnssec_key.specs.declared.roll.RollState.TheVariants.{Propagation1}
use Rattle.dnssec_key.specs.declared.roll.RollType.{RollType, TheVariants.AlgorithmRoll}
use Rattle.dnssec_key.specs.{Key.KeyParts, RollTable.column}
use Rattle.dnssec_zone.specs.Rolls.{same_roll}
use Rattle.dnssec_run.{proofs.Grow.world_front, specs.declared.call.Call.Call}
use Rattle.dnssec_run.specs.declared.record.{Entry.Entry, Mark.Mark, Mark.TheVariants.Report}
use Rattle.dnssec_run.specs.ByAlgorithm.{HasKeyOf, KeepsWhole, algorithm_of, keeps_ksk, keeps_zsk}
use Rattle.dnssec_run.specs.Plain.{DoesAt, IsPlain, needs_algorithm_roll, sets_only_others}
use Rattle.dnssec_run.specs.{Plain.start_of, Published.Id, Published.World, Record.world_at}
use Rattle.dnssec_run.specs.Safe.{Position, blank, position_at, position_of}
use Rattle.dnssec_network.proofs.CallByCall.{Entries, Reached, gets, order, world_of}
use Rattle.dnssec_network.proofs.Models.{premises_can_be_met}
use Rattle.dnssec_network.specs.Models.{IsByTheClock, NoTtlBelow, made_since}
use Rattle.dnssec_network.specs.WholeSets.{HasDsBy, WholeSetsCanBeKept}
use Rattle.dnssec_network.proofs.Course as course

-- ---- tests of each element of a list

holds_from : {A : Type 0} → (ℕ → A → Bool) → ℕ → List A → Bool
holds_from test p [] = true
holds_from test p (x ∷ xs) = test p x && holds_from test (suc p) xs

holds-at : {A : Type 0} (test : ℕ → A → Bool) (p : ℕ) (xs : List A) → holds_from test p xs ≡ true
    → (n : ℕ) (x : A) → slice_get xs n ≡ Some x → test (p + n) x ≡ true
unfolding holds_from
holds-at test p [] all n x is = absurd (none-some x is)
holds-at test p (y ∷ xs) all zero x is =
    let here : test p y ≡ true = grind (arith, all) in
    let there : test p x ≡ true = subst (λ x. test p x ≡ true) (same_Some y x is) here in
    let same : p ≡ p + 0 = omega arith in
    subst (λ n. test n x ≡ true) same there
holds-at test p (y ∷ xs) all (suc n) x is =
    let rest : holds_from test (suc p) xs ≡ true = grind (arith, all) in
    let same : suc p + n ≡ p + suc n = omega arith in
    subst (λ n. test n x ≡ true) same (holds-at test (suc p) xs rest n x is)

-- ---- the course

module _ (heap : Global) (name : List ℕ) (one other : ℕ) where
  abbrev calls : List Call
  calls = course.calls heap name one other

  abbrev entries : List Entry
  entries = course.entries heap name one other

  abbrev keys5 : Entries
  keys5 = course.keys5 heap name one other

  abbrev keys11 : Entries
  keys11 = course.keys11 heap name one other

  abbrev added : List ℕ → ℕ
  added = course.added4 heap name one other

  run5 : Reached name (take 5 calls) (take 5 entries) keys5 (Some Propagation1) added
  run5 = course.run5 heap name one other

  run11 : Reached name (take 11 calls) (take 11 entries) keys11 (Some Propagation1) added
  run11 = course.run11 heap name one other

  -- ---- it is plain

  starts_nothing_else : ℕ → Call → Bool
  starts_nothing_else n call =
      option_map_or (λ roll. same_roll AlgorithmRoll roll) (start_of call) true

  only-algorithm-rolls : (n : ℕ) (roll : RollType) → DoesAt start_of calls entries n roll
      → same_roll AlgorithmRoll roll ≡ true
  unfolding starts_nothing_else holds_from
  only-algorithm-rolls n roll does =
      subst (λ o. option_map_or (λ roll. same_roll AlgorithmRoll roll) o true ≡ true) does.roll_is
      (holds-at starts_nothing_else 0 calls refl n does.call does.call_is)

  quiet : ℕ → Call → Bool
  quiet n call = sets_only_others (λ q. false) call

  quiet-is : (others : List ℕ → Bool) (call : Call) → sets_only_others (λ q. false) call ≡ true
      → sets_only_others others call ≡ true
  quiet-is others call e = grind (arith, e)

  none-needed : (roll : RollType) → same_roll AlgorithmRoll roll ≡ true
      → needs_algorithm_roll roll ≡ true → ⊥
  none-needed roll same needs = grind (arith, same, needs)

  plain : IsPlain name calls entries
  unfolding quiet holds_from
  plain = record {
    setters = λ n call is. quiet-is _ call (holds-at quiet 0 calls refl n call is);
    first = λ n roll needs does.
        absurd (none-needed roll (only-algorithm-rolls n roll does) needs);
  }

  -- ---- it is made by the clock, and no report is too short

  -- what holds of each entry holds of the position after it
  by-entry : (P : Position → Type 0) → P blank → (n : ℕ)
      → ((e : Entry) → slice_get entries n ≡ Some e → P (position_of e))
      → P (position_at entries (suc n))
  unfolding position_at
  by-entry P none n some = on (slice_get entries n) refl
    where
      on : (o : Option Entry) → slice_get entries n ≡ o → P (option_map_or position_of o blank)
      on None at = none
      on (Some e) at = some e at

  timed : ℕ → Entry → Bool
  timed n e = option_map_or (λ m. nat_eq m (n * 1_000_000_000)) e.moment true

  timed-is : (n : ℕ) (e : Entry) (moment : ℕ) → timed n e ≡ true → e.moment ≡ Some moment
      → moment ≡ n * 1_000_000_000
  unfolding timed
  timed-is n e moment all is = grind (arith, all, is)

  clock : IsByTheClock 0 0 entries
  unfolding position_at timed holds_from
  clock zero moment is = absurd (none-some moment is)
  clock (suc n) moment is = by-entry (λ p. p.moment ≡ Some moment → moment ≡ made_since 0 0 (suc n))
      (λ is. absurd (none-some moment is)) n
      (λ e there is.
      let at = timed-is (1 + n) e moment (holds-at timed 1 entries refl n e there) is in
      omega (arith, at)) is

  abbrev is_long : Mark → Bool
  is_long (Report roll last t) = nat_le 1 t
  is_long _ = true

  long : ℕ → Entry → Bool
  long n e = is_long e.mark

  long-is : (n : ℕ) (e : Entry) (t : ℕ) (roll : RollType) (last : Bool) → long n e ≡ true
      → e.mark ≡ Report roll last t → 1 ≤ t
  unfolding long
  long-is n e t roll last all is = grind (arith, all, is)

  lasts : NoTtlBelow 0 1 entries
  unfolding position_at long holds_from
  lasts zero t roll last after is = absurd (omega (arith, after))
  lasts (suc n) t roll last after is = by-entry (λ p. p.mark ≡ Report roll last t → 1 ≤ t)
      (λ is. grind (arith, is)) n
      (λ e there is. long-is n e t roll last (holds-at long 0 entries refl n e there) is) is

  -- ---- it keeps sets whole

  is-algorithm : (roll : RollType) → same_roll AlgorithmRoll roll ≡ true → roll ≡ AlgorithmRoll
  is-algorithm roll same = grind (arith, same)

  start_at : ℕ → Call → Bool
  start_at n call = is_none (start_of call) || (nat_eq n 4 || nat_eq n 10)

  starts-at : (n : ℕ) (roll : RollType) → DoesAt start_of calls entries n roll
      → (n ≡ 4) ⊎ (n ≡ 10)
  unfolding start_at holds_from
  starts-at n roll does =
      let test : (is_none (start_of does.call) || (nat_eq (0 + n) 4 || nat_eq (0 + n) 10)) ≡ true =
      holds-at start_at 0 calls refl n does.call does.call_is in
      grind (arith, test, does.roll_is)

  abbrev AllOf : (KeyParts → Type 0) → Entries → Type 0
  AllOf P [] = Unit {0}
  AllOf P (e ∷ es) = P e.1 × AllOf P es

  found : (P : KeyParts → Type 0) (es : Entries) → AllOf P es → (q : List ℕ) (k : KeyParts)
      → find order q es ≡ Some k → P k
  found P [] all q k is = absurd (none-some k is)
  found P (e ∷ es) all q k is = elim (cases_Bool (eq_by_cmp order q e.0)) [
    | inl t ↦ subst P (same_Some e.1 k
        (sym (ap (λ (b : Bool). cond b (Some e.1) (find order q es)) t) ∙ is)) all.0
    | inr t ↦ found P es all.1 q k
        (sym (ap (λ (b : Bool). cond b (Some e.1) (find order q es)) t) ∙ is)
  ]

  -- a KSK that stays has a ZSK of its algorithm beside it
  abbrev HasZsk : World → KeyParts → Type 0
  HasZsk w k = keeps_ksk k.keytype ≡ true → HasKeyOf keeps_zsk k.algorithm w

  kept : (es : Entries) (w : World) → get w.set.keys ≡ (λ q. find order q es)
      → AllOf (HasZsk w) es → (algorithm : ℕ) → HasKeyOf keeps_ksk algorithm w
      → HasKeyOf keeps_zsk algorithm w
  kept es w at all algorithm h = subst (λ a. HasKeyOf keeps_zsk a w) h.4
      (found (HasZsk w) es all h.0 h.1 (sym (ap (λ f. f h.0) at) ∙ h.2) h.3)

  at5 : world_at name calls entries 5
      ≡ world_of name keys5 (Some Propagation1) run5.lists added
  at5 = world_front name (take 5 calls) (drop 5 calls) (take 5 entries) (drop 5 entries) 5
      (omega arith) (omega arith) ∙ run5.here

  at11 : world_at name calls entries 11
      ≡ world_of name keys11 (Some Propagation1) run11.lists added
  at11 = world_front name (take 11 calls) (drop 11 calls) (take 11 entries) (drop 11 entries) 11
      (omega arith) (omega arith) ∙ run11.here

  abbrev KeptAt : ℕ → Type 0
  KeptAt n = (algorithm : ℕ) → HasKeyOf keeps_ksk algorithm (world_at name calls entries (suc n))
      → HasKeyOf keeps_zsk algorithm (world_at name calls entries (suc n))

  -- a key that is no KSK, or doesn't stay
  no : {A : Type 0} → false ≡ true → A
  no is = absurd (true≢false (sym is))

  kept5 : KeptAt 4
  unfolding column
  kept5 = rw at5 (kept keys5 (world_of name keys5 (Some Propagation1) run5.lists added)
      (gets keys5)
      (no, (no, (no, ((λ is. (99 ∷ [], _, ap (λ f. f (99 ∷ [])) (gets keys5), refl, refl)), tt)))))

  kept11 : KeptAt 10
  unfolding column
  kept11 = rw at11 (kept keys11 (world_of name keys11 (Some Propagation1) run11.lists added)
      (gets keys11)
      (no, ((λ is. (97 ∷ [], _, ap (λ f. f (97 ∷ [])) (gets keys11), refl, refl)), (no, (no, tt)))))

  whole : KeepsWhole name calls entries
  whole = record {
    both = λ n algorithm roll does. elim (starts-at n roll does) [
      | inl first ↦ subst KeptAt (sym first) kept5 algorithm
      | inr last ↦ subst KeptAt (sym last) kept11 algorithm
    ];
    none_new = λ n algorithm roll does another has.
        absurd (another (is-algorithm roll (only-algorithm-rolls n roll does)));
  }

  -- ---- the DS set goes from the one algorithm to the other

  only-one : (x k : Id) (n : ℕ) → n < 1 → slice_index_or (x ∷ []) n k ≡ k → x ≡ k
  only-one x k zero within is = is
  only-one x k (suc n) within is = absurd (omega (arith, within))

  -- a position whose DS set has only this key
  by-one : (algorithm at : ℕ) (key : Id) → at ≤ length entries
      → (position_at entries at).ds ≡ key ∷ [] → algorithm_of calls key ≡ algorithm
      → HasDsBy calls entries algorithm
  by-one algorithm at key within is same = record {
    at = at;
    key = key;
    within = within;
    is_in = subst (λ (ds : List Id). Contains ds key) (sym is) (0, omega arith, refl);
    all = λ k has.
        let h = subst (λ (ds : List Id). Contains ds k) is has in
        ap (algorithm_of calls) (sym (only-one key k h.0 h.1 h.2)) ∙ same;
  }

  ds_one : HasDsBy calls entries one
  unfolding position_at
  ds_one = by-one one 7 (100 ∷ [], 1) (omega arith) refl refl

  ds_other : HasDsBy calls entries other
  unfolding position_at
  ds_other = by-one other 13 (98 ∷ [], 3) (omega arith) refl refl

pub whole_sets_can_be_kept : WholeSetsCanBeKept
whole_sets_can_be_kept heap name one other time = (
  calls heap name one other,
  entries heap name one other,
  (course.run16 heap name one other).run,
  plain heap name one other,
  whole heap name one other,
  ds_one heap name one other,
  ds_other heap name one other,
  premises_can_be_met 0 0 1 time (entries heap name one other) (omega arith) (omega arith)
      (omega arith) (clock heap name one other) (lasts heap name one other),
)
