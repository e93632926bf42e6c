-- A call that is said says so of the set and the notes by which it is said.
use Rattle.std.proofs.Common.{◌≡◌, ℕ, ◌⊎◌, inl, inr, Bool, true, false, List, [], ◌∷◌}
use Rattle.std.proofs.Common.{Option, None, Some, refl, sym, ap, subst, ◌∙◌, arith, map}
use Rattle.std.proofs.lemmas.Bool.{and_parts, cases_Bool, leb-true, true≢false}
use Rattle.std.specs.Prelude.{if◌then◌else◌, Result, Ok, Err, T, nat_le, not, ◌&&◌, ◌||◌}
use Rattle.std.specs.{List.fold, List.list_any, Cmp.Lexicographic.slice_cmp, Ordering.nat_cmp}
use Rattle.std.specs.FinMap.{entries, entries_sorted, find, get, get-entries, values}
use Rattle.std.specs.FinMap.Entries.{is_sorted}
use Rattle.dnssec_key.specs.declared.roll.RollState.{RollState}
use Rattle.dnssec_key.specs.declared.roll.RollState.TheVariants.{Propagation1, CacheExpire1}
use Rattle.dnssec_key.specs.declared.roll.RollState.TheVariants.{Propagation2, CacheExpire2, Done}
use Rattle.dnssec_key.specs.declared.roll.RollType.{RollType}
use Rattle.dnssec_key.specs.declared.roll.RollType.TheVariants.{AlgorithmRoll, CskRoll}
use Rattle.dnssec_key.specs.Key.{KeyParts}
use Rattle.dnssec_key.specs.declared.roll.Half.{Half, TheVariants.First, TheVariants.Second}
use Rattle.dnssec_key.specs.RollTable.{cache_expire, is_second}
use Rattle.dnssec_zone.specs.{Keys.some_key, Rolls.all_rolls, Rolls.phase_of, Rolls.same_roll}
use Rattle.dnssec_zone.proofs.Quantified.{here-found, later-found, second}
use Rattle.dnssec_keyset.proofs.Laws.{same-is}
use Rattle.dnssec_keyset.specs.declared.wait.WaitEnd.{WaitEnd, TheVariants.At, TheVariants.PastTime}
use Rattle.dnssec_keyset.specs.Step as keyset
use Rattle.dnssec_run.specs.declared.caches.SetKind.{SetKind}
use Rattle.dnssec_run.specs.declared.caches.SetKind.TheVariants.{Ds, Dnskey, ZoneSigners}
use Rattle.dnssec_run.specs.{declared.running.LastStep.LastStep, Safe.kind_of, Steps.origin_in}
use Rattle.dnssec_run.specs.WholeRolls.{propagation}
use Rattle.dnssec_network.specs.declared.spread.Reach.{Reach}
use Rattle.dnssec_network.specs.declared.spread.Reach.TheVariants.{Unpublished, Spreading}
use Rattle.dnssec_network.specs.{declared.spread.Reach.TheVariants.Everywhere, Reports.due}
use Rattle.dnssec_policy.specs.declared.policy.{KeyRole.KeyRole, KskMethod.KskMethod, Policy.Policy}
use Rattle.dnssec_policy.specs.declared.policy.{Term.Term, Scheme.Scheme}
use Rattle.dnssec_policy.specs.declared.policy.Scheme.TheVariants.{Split, SingleType}
use Rattle.dnssec_policy.specs.declared.{policy.ZskMethod.ZskMethod, why.Why.Why}
use Rattle.dnssec_policy.specs.InProgress.{awaited, end_next, ends_with, later, once, once_settled}
use Rattle.dnssec_policy.specs.InProgress.{once_there, report_next, report_or, wait_next}
use Rattle.dnssec_policy.specs.Keys.{earlier, first_over, goes, has_left, is_unwanted}
use Rattle.dnssec_policy.specs.Keys.{ksk_roll, leaves_from, new_keys, over_from, references_where}
use Rattle.dnssec_policy.specs.Keys.{renewal_of, role_of, roles_of, serves, wants_others, zsk_roll}
use Rattle.dnssec_policy.specs.Next.{at_moment, change, deletion, deletions, may_begin, next_of}
use Rattle.dnssec_policy.specs.Next.{once_all_ended, once_ended, phase_next, renewal, renewals}
use Rattle.dnssec_policy.specs.Next.{rolls_next, start_with, task_of}
use Rattle.dnssec_policy.specs.Stuck.{stuck, stuck_of}
use Rattle.dnssec_policy.specs.Todo.{Todo, Make, NotBefore, Rest, is_sooner, sooner}
use Rattle.dnssec_policy.specs.{Ttls.lasting, View.View, View.reach_in}
use Rattle.dnssec_policy.proofs.{Loops.first_from, Order.among}
use Rattle.dnssec_policy.proofs.May.{IsChange, IsRenewal, IsSettled, May, is_renewal}

-- ---- of two

made : (x c : keyset.Call) → Make x ≡ Make c → x ≡ c
made x c e = cc

chosen : (t : Bool) (a b : Todo) (c : keyset.Call) → (if t then b else a) ≡ Make c
    → (a ≡ Make c) ⊎ (b ≡ Make c)
chosen true a b c e = inr e
chosen false a b c e = inl e

of_two : (a b : Todo) (c : keyset.Call) → sooner a b ≡ Make c → (a ≡ Make c) ⊎ (b ≡ Make c)
of_two a b c e = chosen (is_sooner a b) a b c e

guarded : (t : Bool) (a : Todo) (c : keyset.Call) → (if t then a else Rest) ≡ Make c
    → (t ≡ true) × (a ≡ Make c)
guarded true a c e = (refl, e)
guarded false a c e = absurd (cc)

unmade : (r : Reach) (kind : SetKind) (now : ℕ) (c : keyset.Call) → awaited r kind now ≡ Make c
    → ⊥
unmade Unpublished kind now c e = cc
unmade Spreading kind now c e = cc
unmade Everywhere kind now c e = cc

-- nor by a cause
uncaused : (o : Option Why) (c : keyset.Call) → stuck o ≡ Make c → ⊥
uncaused None c e = cc
uncaused (Some why) c e = cc

pub ksk-renews : (k : KskMethod) → is_renewal (ksk_roll k) ≡ true
ksk-renews k = grind arith

pub zsk-renews : (z : ZskMethod) → is_renewal (zsk_roll z) ≡ true
zsk-renews z = grind arith

pub not-so : (t : Bool) → not t ≡ true → t ≡ false
not-so true e = absurd (true≢false (sym e))
not-so false e = refl

module _ (policy : Policy) (v : View) where
  -- ---- rolls in progress

  module _ (c : keyset.Call) (roll : RollType) where
    counted : (half : Half) (step : LastStep) (least long : ℕ)
        → phase_of v.set.rolls roll ≡ Some (propagation half) → v.step roll ≡ Some step
        → due v.before v.facts roll (is_second half) (origin_in step.origins) v.now ≡ Ok least
        → long ≡ lasting v.highest roll (is_second half) least
        → (t : Bool) → nat_le long 4_294_967_295 ≡ t
        → (if t then Make (keyset.Report roll half long v.now) else later v.now) ≡ Make c
        → May policy v c
    counted half step least long phase there is lasts true fits e =
        subst (May policy v) (made (keyset.Report roll half long v.now) c e)
        (refl, phase, step, there, least, is, lasts, leb-true long 4_294_967_295 fits)
    counted half step least long phase there is lasts false fits e = absurd (cc)

    reported : (half : Half) (step : LastStep) (r : Result ℕ SetKind)
        → phase_of v.set.rolls roll ≡ Some (propagation half) → v.step roll ≡ Some step
        → due v.before v.facts roll (is_second half) (origin_in step.origins) v.now ≡ r
        → report_or v roll half step.origins r ≡ Make c → May policy v c
    reported half step (Ok least) phase there is e =
        let long = lasting v.highest roll (is_second half) least in
        counted half step least long phase there is refl (nat_le long 4_294_967_295) refl e
    reported half step (Err kind) phase there is e = absurd (unmade
        (reach_in v kind (origin_in step.origins (kind_of kind))) kind v.now c e)

    report : (half : Half) → phase_of v.set.rolls roll ≡ Some (propagation half)
        → (o : Option LastStep) → v.step roll ≡ o → report_next v roll half o ≡ Make c
        → May policy v c
    report half phase None there e = absurd (cc)
    report half phase (Some step) there e = reported half step _ phase there refl e

    waited : (half : Half) (ttl : ℕ) → phase_of v.set.rolls roll ≡ Some (cache_expire half ttl)
        → (end : ℕ) → v.end roll ≡ Some (At end) → (t : Bool) → nat_le end v.now ≡ t
        → (if t then Make (keyset.Wait roll half v.now) else NotBefore end) ≡ Make c
        → May policy v c
    waited half ttl phase end is true le e =
        subst (May policy v) (made (keyset.Wait roll half v.now) c e)
        (refl, ttl, phase, end, is, leb-true end v.now le)
    waited half ttl phase end is false le e = absurd (cc)

    wait : (half : Half) (ttl : ℕ) → phase_of v.set.rolls roll ≡ Some (cache_expire half ttl)
        → (o : Option WaitEnd) → v.end roll ≡ o → wait_next v roll half o ≡ Make c → May policy v c
    wait half ttl phase (Some (At end)) is e = waited half ttl phase end is _ refl e
    wait half ttl phase (Some PastTime) is e = absurd (cc)
    wait half ttl phase None is e = absurd (cc)

    once-made : (r : Reach) (kind : SetKind) (todo : Todo) → once r kind todo ≡ Make c
        → (todo ≡ Make c) × (r ≡ Everywhere)
    once-made Everywhere kind todo e = (e, refl)
    once-made Unpublished kind todo e = absurd (cc)
    once-made Spreading kind todo e = absurd (cc)

    if-there : (t : Bool) (r : Reach) (kind : SetKind) (todo : Todo)
        → (if t then once r kind todo else todo) ≡ Make c
        → (todo ≡ Make c) × (t ≡ true → r ≡ Everywhere)
    if-there true r kind todo e =
        let x = once-made r kind todo e in (x.0, λ t. x.1)
    if-there false r kind todo e = (e, λ t. absurd (true≢false (sym t)))

    there : (base : ℕ) (kind : SetKind) (todo : Todo) → once_there v roll base kind todo ≡ Make c
        → (todo ≡ Make c) × (ends_with roll kind ≡ true → reach_in v kind base ≡ Everywhere)
    there base kind todo e = if-there (ends_with roll kind) (reach_in v kind base) kind todo e

    settled : (base : ℕ) (todo : Todo) → once_settled v roll base todo ≡ Make c
        → (todo ≡ Make c) × IsSettled v roll base
    settled base todo e =
        let zone = once_there v roll base ZoneSigners todo in
        let x = there base Ds (once_there v roll base Dnskey zone) e in
        let y = there base Dnskey zone x.0 in
        let z = there base ZoneSigners todo y.0 in (
          z.0,
          λ kind. elim kind as (λ k. ends_with roll k ≡ true → reach_in v k base ≡ Everywhere)
              [ Ds ↦ x.1 | Dnskey ↦ y.1 | ZoneSigners ↦ z.1 ],
        )

    end : phase_of v.set.rolls roll ≡ Some Done → (o : Option ℕ) → v.last roll ≡ o
        → end_next v roll o ≡ Make c → May policy v c
    end phase None is e = absurd (cc)
    end phase (Some base) is e =
        let x = settled base (Make (keyset.RollDone roll)) e in
        subst (May policy v) (made (keyset.RollDone roll) c x.0) (phase, base, is, x.1)

    one : (o : Option RollState) → phase_of v.set.rolls roll ≡ o → phase_next v roll o ≡ Make c
        → May policy v c
    one None is e = absurd (cc)
    one (Some Propagation1) is e = report First is (v.step roll) refl e
    one (Some (CacheExpire1 ttl)) is e = wait First ttl is (v.end roll) refl e
    one (Some Propagation2) is e = report Second is (v.step roll) refl e
    one (Some (CacheExpire2 ttl)) is e = wait Second ttl is (v.end roll) refl e
    one (Some Done) is e = end is (v.last roll) refl e

  rolls : (c : keyset.Call) (rs : List RollType) (so_far : Todo)
      → fold (λ best roll. sooner best (phase_next v roll (phase_of v.set.rolls roll))) so_far rs
      ≡ Make c → (so_far ≡ Make c) ⊎ May policy v c
  rolls c [] so_far e = inl e
  rolls c (r ∷ rs) so_far e =
      elim (rolls c rs (sooner so_far (phase_next v r (phase_of v.set.rolls r))) e) [
        | inl h ↦ elim (of_two so_far (phase_next v r (phase_of v.set.rolls r)) c h) [
          | inl b ↦ inl b
          | inr m ↦ inr (one c r (phase_of v.set.rolls r) refl m)
        ]
        | inr m ↦ inr m
      ]

  -- ---- deletions

  at-moment : (o : Option ℕ) (todo : Todo) (c : keyset.Call) → at_moment v.now o todo ≡ Make c
      → ((m : ℕ) × (o ≡ Some m)) × (todo ≡ Make c)
  at-moment None todo c e = absurd (cc)
  at-moment (Some m) todo c e = ((m, refl), by (nat_le m v.now) e)
    where
      by : (t : Bool) → (if t then todo else NotBefore m) ≡ Make c → todo ≡ Make c
      by true e = e
      by false e = absurd (cc)

  -- each of these rolls has ended
  abbrev AllEnded : List RollType → Type 0
  AllEnded rs = (roll : RollType) → list_any (same_roll roll) rs ≡ true → (base : ℕ)
      → v.last roll ≡ Some base → IsSettled v roll base

  ended : (c : keyset.Call) (roll : RollType) (o : Option ℕ) (todo : Todo) → v.last roll ≡ o
      → once_ended v roll o todo ≡ Make c
      → (todo ≡ Make c) × ((base : ℕ) → v.last roll ≡ Some base → IsSettled v roll base)
  ended c roll None todo is e = (e, λ base last. let nope = sym is ∙ last in absurd (cc))
  ended c roll (Some b) todo is e =
      let x = settled c roll b todo e in
      (x.0, λ base last. subst (IsSettled v roll) (same b base (sym is ∙ last)) x.1)
    where
      same : (b base : ℕ) → ◌≡◌ {A = Option ℕ} (Some b) (Some base) → b ≡ base
      same b base e = cc

  all-ended : (c : keyset.Call) (rs : List RollType) (todo : Todo)
      → fold (λ todo roll. once_ended v roll (v.last roll) todo) todo rs ≡ Make c
      → (todo ≡ Make c) × AllEnded rs
  all-ended c [] todo e = (e, λ roll l. absurd (true≢false (sym l)))
  all-ended c (r ∷ rs) todo e =
      let x = all-ended c rs (once_ended v r (v.last r) todo) e in
      let y = ended c r (v.last r) todo refl x.0 in (
        y.0,
        λ roll l. elim (cases_Bool (same_roll roll r)) [
          | inl t ↦ subst (λ r. (base : ℕ) → v.last r ≡ Some base → IsSettled v r base)
              (sym (same-is roll r t)) y.1
          | inr f ↦ x.1 roll (sym (ap (λ b. b || list_any (same_roll roll) rs) f) ∙ l)
        ],
      )

  deleted : (c : keyset.Call) (q : List ℕ) (k : KeyParts) → get v.set.keys q ≡ Some k
      → deletion policy v q k ≡ Make c → May policy v c
  deleted c q k there e =
      let delete = Make (keyset.DeleteKey q) in
      let moment = leaves_from policy.delete_after k.timestamps.withdrawn in
      let x = guarded (has_left v.set.rolls k)
      (at_moment v.now (Some moment) (once_all_ended v delete)) c e in
      let y = at-moment (Some moment) (once_all_ended v delete) c x.1 in
      let z = all-ended c all_rolls delete y.1 in
      subst (May policy v) (made (keyset.DeleteKey q) c z.0)
      (k, there, x.0, λ roll. z.1 roll (among roll))

  -- an entry that says so
  picked : (c : keyset.Call) (es : List (List ℕ × KeyParts)) → T (is_sorted (slice_cmp nat_cmp) es)
      → (so_far : Todo)
      → fold (λ best (e : List ℕ × KeyParts). sooner best (deletion policy v e.0 e.1)) so_far es
      ≡ Make c → (so_far ≡ Make c) ⊎ ((q : List ℕ) × (k : KeyParts)
      × (find (slice_cmp nat_cmp) q es ≡ Some k) × (deletion policy v q k ≡ Make c))
  picked c [] s so_far e = inl e
  picked c (x ∷ xs) s so_far e =
      elim (picked c xs (second _ _ s) (sooner so_far (deletion policy v x.0 x.1)) e) [
        | inl h ↦ elim (of_two so_far (deletion policy v x.0 x.1) c h) [
          | inl b ↦ inl b
          | inr m ↦ inr (x.0, x.1, here-found x xs, m)
        ]
        | inr f ↦ inr (f.0, f.1, later-found x xs s f.0 f.1 f.2, f.3)
      ]

  deletes : (c : keyset.Call) → deletions policy v ≡ Make c → May policy v c
  deletes c e = elim (picked c (entries v.set.keys) (entries_sorted v.set.keys) Rest e) [
    | inl n ↦ absurd (cc)
    | inr f ↦ deleted c f.0 f.1 (get-entries v.set.keys f.0 ∙ f.2) f.3
  ]

  -- ---- starts

  start : (c : keyset.Call) (roll : RollType) (r : Result (List (List ℕ)) KeyRole)
      → may_begin v roll ≡ true
      → ((news : List (List ℕ)) → r ≡ Ok news
      → IsChange policy v roll news ⊎ IsRenewal policy v roll news)
      → start_with v roll r ≡ Make c → May policy v c
  start c roll (Err role) begins by e = absurd (cc)
  start c roll (Ok news) begins by e =
      let olds = references_where (goes roll) (entries v.set.keys) in
      subst (May policy v) (made (keyset.StartRoll roll olds news v.now) c e)
      (refl, record { begins = begins; olds_are = refl; by = by news refl })

  changed : (c : keyset.Call) → change policy v ≡ Make c → May policy v c
  changed c e =
      let news = new_keys policy v.set.keys (roles_of policy.scheme) in
      let x = guarded (may_begin v AlgorithmRoll && wants_others policy v.set.keys)
      (start_with v AlgorithmRoll news) c e in
      start c AlgorithmRoll news (and_parts (may_begin v AlgorithmRoll) _ x.0).0
      (λ qs is. inl (record { roll_is = refl; news_are = is })) x.1

  module _ (role : KeyRole) (renewal : Term) where
    step-aged : (k : KeyParts) (best : Option ℕ)
        → ((m : ℕ) × ((if serves role k.keytype
        then earlier best (over_from renewal k.timestamps.published) else best) ≡ Some m))
        → (serves role k.keytype ≡ true) ⊎ ((m : ℕ) × (best ≡ Some m))
    step-aged k best h = by (serves role k.keytype) refl h
      where
        by : (t : Bool) → serves role k.keytype ≡ t
            → ((m : ℕ) × ((if t then earlier best (over_from renewal k.timestamps.published)
            else best) ≡ Some m)) → (serves role k.keytype ≡ true) ⊎ ((m : ℕ) × (best ≡ Some m))
        by true is h = inl is
        by false is h = inr h

    -- among entries: one that is at work is found
    aged : (es : List (List ℕ × KeyParts)) → T (is_sorted (slice_cmp nat_cmp) es)
        → (best : Option ℕ)
        → ((m : ℕ) × (first_from role renewal best (map (λ (e : List ℕ × KeyParts). e.1) es)
        ≡ Some m)) → ((q : List ℕ) × (k : KeyParts) × (find (slice_cmp nat_cmp) q es ≡ Some k)
        × (serves role k.keytype ≡ true)) ⊎ ((m : ℕ) × (best ≡ Some m))
    aged [] s best h = inr h
    aged (x ∷ xs) s best h = elim (aged xs (second _ _ s) _ h) [
      | inl f ↦ inl (f.0, f.1, later-found x xs s f.0 f.1 f.2, f.3)
      | inr b ↦ elim (step-aged x.1 best b) [
        | inl a ↦ inl (x.0, x.1, here-found x xs, a)
        | inr b ↦ inr b
      ]
    ]

    has-aged : (m : ℕ) → first_over role renewal (values v.set.keys) ≡ Some m
        → (q : List ℕ) × (k : KeyParts) × (get v.set.keys q ≡ Some k)
        × (serves role k.keytype ≡ true)
    has-aged m e =
        elim (aged (entries v.set.keys) (entries_sorted v.set.keys) None (m, e)) [
          | inl f ↦ (f.0, f.1, get-entries v.set.keys f.0 ∙ f.2, f.3)
          | inr b ↦ let n = b.1 in absurd (cc)
        ]

  renewed : (c : keyset.Call) (roll : RollType) → is_renewal roll ≡ true
      → renewal policy v roll ≡ Make c → May policy v c
  renewed c roll renews e =
      let role = role_of roll in
      let o = first_over role (renewal_of policy role) (values v.set.keys) in
      let news = new_keys policy v.set.keys (role ∷ []) in
      let some = some_key (is_unwanted policy) v.set.keys in
      let x = guarded (may_begin v roll && not some)
      (at_moment v.now o (start_with v roll news)) c e in
      let parts = and_parts (may_begin v roll) (not some) x.0 in
      let y = at-moment o (start_with v roll news) c x.1 in
      let a = has-aged role (renewal_of policy role) y.0.0 y.0.1 in
      start c roll news parts.0
      (λ qs is. inr (record {
        renews = renews;
        wanted = not-so some parts.1;
        news_are = is;
        old = a.0;
        key = a.1;
        there = a.2;
        works = a.3;
      })) y.1

  all : (scheme : Scheme) (c : keyset.Call) → renewals policy v scheme ≡ Make c → May policy v c
  all (Split k z) c e =
      elim (of_two (renewal policy v (ksk_roll k)) (renewal policy v (zsk_roll z)) c e) [
        | inl e ↦ renewed c (ksk_roll k) (ksk-renews k) e
        | inr e ↦ renewed c (zsk_roll z) (zsk-renews z) e
      ]
  all SingleType c e = renewed c CskRoll refl e

  -- ---- all of it

  pub may : (c : keyset.Call) → task_of policy v ≡ Make c → May policy v c
  may c e =
      let a = rolls_next v in
      let b = deletions policy v in
      let d = change policy v in
      elim (of_two (sooner (sooner a b) d) (renewals policy v policy.scheme) c e) [
        | inl e ↦ elim (of_two (sooner a b) d c e) [
          | inl e ↦ elim (of_two a b c e) [
            | inl e ↦ elim (rolls c all_rolls Rest e) [ inl n ↦ absurd (cc) | inr m ↦ m ]
            | inr e ↦ deletes c e
          ]
          | inr e ↦ changed c e
        ]
        | inr e ↦ all policy.scheme c e
      ]

  -- a cause is no call
  pub task-said : (c : keyset.Call) → next_of policy v ≡ Make c → task_of policy v ≡ Make c
  task-said c e = elim (of_two (task_of policy v) (stuck (stuck_of policy v)) c e) [
    | inl e ↦ e
    | inr e ↦ absurd (uncaused (stuck_of policy v) c e)
  ]

  pub may-next : (c : keyset.Call) → next_of policy v ≡ Make c → May policy v c
  may-next c e = may c (task-said c e)
