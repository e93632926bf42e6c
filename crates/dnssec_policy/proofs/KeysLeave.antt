-- A key whose lifetime is over is put into its roll by the next calls, and leaves with it.
use Rattle.std.proofs.Common.{◌≡◌, ℕ, suc, ◌+◌, ◌*◌, ◌<◌, ◌≤◌, ◌⊎◌, inl, inr, Bool, true}
use Rattle.std.proofs.Common.{false, cond, List, [], ◌∷◌, Option, None, Some, length, map, max}
use Rattle.std.proofs.Common.{refl, sym, ap, subst, ◌∙◌, arith}
use Rattle.std.proofs.lemmas.Bool.{cases_Bool, cases_lt, or_parts, true≢false}
use Rattle.std.proofs.lemmas.Option.{none-some, same_Some}
use Rattle.std.specs.Prelude.{if◌then◌else◌, nat_lt, slice_get, unwrap_or, ◌-◌}
use Rattle.std.specs.List.{list_any}
use Rattle.std.specs.{Cmp.Lexicographic.slice_cmp, Ordering.is_eq, Ordering.nat_cmp, FinMap.find}
use Rattle.std.specs.FinMap.{entries as entries_of, get, get-entries}
use Rattle.dnssec_key.specs.declared.roll.RollType.{RollType}
use Rattle.dnssec_key.specs.Key.{KeyParts}
use Rattle.dnssec_zone.specs.{Rolls.same_roll, Start.is_listed, Start.texts}
use Rattle.dnssec_keyset.{specs.KeySet.KeySetParts, proofs.Laws.same-is}
use Rattle.dnssec_keyset.specs.Step as keyset
use Rattle.dnssec_run.specs.declared.call.Call.{Call, TheVariants.StartRoll}
use Rattle.dnssec_run.specs.{declared.record.Entry.Entry, Plain.DoesAt, Plain.start_of}
use Rattle.dnssec_run.specs.Record.{IsRun, call_of, is_accepted}
use Rattle.dnssec_run.{specs.WholeRolls.IsAccepted, proofs.Chain.Rolls.same-same}
use Rattle.dnssec_run.proofs.WholeRolls.{Completion.rolls-finish, Replies.since}
use Rattle.dnssec_network.specs.Network.{Network}
use Rattle.dnssec_policy.specs.declared.policy.{KeyRole.KeyRole, Policy.Policy, Scheme.Scheme}
use Rattle.dnssec_policy.specs.declared.policy.Scheme.TheVariants.{Split, SingleType}
use Rattle.dnssec_policy.specs.{declared.policy.Term.Term}
use Rattle.dnssec_policy.specs.Delays.{AreMade, IsAfter, IsDue, KeysLeave, Watch, said}
use Rattle.dnssec_policy.specs.Keys.{earlier, goes, over_by_age}
use Rattle.dnssec_policy.specs.Keys.{over_from, over_on_demand, renewal_of, role_of}
use Rattle.dnssec_policy.specs.{Keys.rolls_of, Keys.serves, Next.next_of, Todo.Make, Todo.rank}
use Rattle.dnssec_policy.{specs.View.View, proofs.Accepted.listed-in, proofs.Accepted.works-goes}
use Rattle.dnssec_policy.proofs.{PlainCalls.automatic-plain, Whole.add-starts}
use Rattle.dnssec_policy.proofs.Delays.{auto, in-turn}
use Rattle.dnssec_policy.proofs.InTime.{renewals-in-time}
use Rattle.dnssec_policy.proofs.Lags.{costs-grow, more-by, none-by, sum-by}
use Rattle.dnssec_policy.proofs.Loops.{aged_key, first_from}
use Rattle.dnssec_policy.proofs.{May.May, May.is_renewal, Said.may-next, RollsEnd.rolls-end}

-- ---- whose time is over

-- there is such a moment, and it is past
abbrev IsPast : ℕ → Option ℕ → Type 0
IsPast now o = (m : ℕ) × (o ≡ Some m) × (m ≤ now)

earlier-first : (now : ℕ) (a b : Option ℕ) → IsPast now a → IsPast now (earlier a b)
earlier-first now None b w = absurd (none-some w.0 w.1)
earlier-first now (Some m) None w = w
earlier-first now (Some m) (Some n) w = by (nat_lt n m) refl
  where
    by : (t : Bool) → nat_lt n m ≡ t → IsPast now (if t then Some n else Some m)
    by true e =
        let lt : n < m = grind (arith, e) in
        let past = w.2 in (n, refl, omega (arith, lt, same_Some m w.0 w.1, past))
    by false e = w

earlier-second : (now : ℕ) (a b : Option ℕ) → IsPast now b → IsPast now (earlier a b)
earlier-second now None b w = w
earlier-second now (Some m) None w = absurd (none-some w.0 w.1)
earlier-second now (Some m) (Some n) w = by (nat_lt n m) refl
  where
    by : (t : Bool) → nat_lt n m ≡ t → IsPast now (if t then Some n else Some m)
    by true e = w
    by false e =
        let le : m ≤ n = grind (arith, e) in
        let past = w.2 in (m, refl, omega (arith, le, same_Some n w.0 w.1, past))

module _ (role : KeyRole) (renewal : Term) (now : ℕ) where
  abbrev with-key : Option ℕ → KeyParts → Option ℕ
  with-key = aged_key role renewal

  past-kept : (best : Option ℕ) (k : KeyParts) → IsPast now best → IsPast now (with-key best k)
  past-kept best k w = by (serves role k.keytype)
    where
      by : (t : Bool) → IsPast now (if t
          then earlier best (over_from renewal k.timestamps.published) else best)
      by true = earlier-first now best (over_from renewal k.timestamps.published) w
      by false = w

  all-kept : (ks : List KeyParts) (best : Option ℕ) → IsPast now best
      → IsPast now (first_from role renewal best ks)
  all-kept [] best w = w
  all-kept (k ∷ ks) best w = all-kept ks (with-key best k) (past-kept best k w)

  module _ (q : List ℕ) (k : KeyParts) (works : serves role k.keytype ≡ true)
      (over : IsPast now (over_from renewal k.timestamps.published)) where
    here : (best : Option ℕ) → IsPast now (with-key best k)
    here best = subst (λ t. IsPast now (if t
        then earlier best (over_from renewal k.timestamps.published) else best)) (sym works)
        (earlier-second now best (over_from renewal k.timestamps.published) over)

    found : (es : List (List ℕ × KeyParts)) (best : Option ℕ)
        → find (slice_cmp nat_cmp) q es ≡ Some k
        → IsPast now (first_from role renewal best (map (λ (e : List ℕ × KeyParts). e.1) es))
    found [] best f = absurd (cc)
    found (e ∷ es) best f = elim (cases_Bool (is_eq (slice_cmp nat_cmp q e.0))) [
      | inl same ↦
          let key : e.1 ≡ k = same_Some e.1 k
          (sym (ap (λ b. cond b (Some e.1) (find (slice_cmp nat_cmp) q es)) same) ∙ f) in
          all-kept (map (λ (e : List ℕ × KeyParts). e.1) es) (with-key best e.1)
          (subst (λ k. IsPast now (with-key best k)) (sym key) (here best))
      | inr apart ↦ found es (with-key best e.1)
          (sym (ap (λ b. cond b (Some e.1) (find (slice_cmp nat_cmp) q es)) apart) ∙ f)
    ]

-- a call is said for a key that is due
due-said : (policy : Policy) (v : View) (roll : RollType) (q : List ℕ) → IsDue policy v roll q
    → rank (next_of policy v) ≡ 0
due-said policy v roll q d =
    let role = role_of roll in
    let term = renewal_of policy role in
    let published = unwrap_or d.key.timestamps.published 0 in
    let old : IsPast v.now (over_by_age term.lifetime published) = (
      published + d.lifetime * 1_000_000_000,
      ap (λ o. over_by_age o published) d.lifetime_is,
      d.over,
    ) in
    let o = found role term v.now q d.key d.works
    (earlier-first v.now (over_by_age term.lifetime published) (over_on_demand term.once published)
    old) (entries_of v.set.keys) None (sym (get-entries v.set.keys q) ∙ d.there) in
    renewals-in-time policy v roll o.0 d.news d.renews d.begins d.wanted o.1 o.2 d.news_are

-- ---- which roll

scheme-renews : (scheme : Scheme) (roll : RollType)
    → list_any (same_roll roll) (rolls_of scheme) ≡ true → is_renewal roll ≡ true
scheme-renews (Split k z) roll e = grind (arith, or_parts)
scheme-renews SingleType roll e = grind (arith, or_parts)

-- ---- until the roll starts

module _ {name : List ℕ} {calls : List Call} {entries : List Entry} {network : Network}
    {watch : Watch} {lag time : ℕ} (run : IsRun name calls entries)
    (all : AreMade name calls entries network watch lag time) (roll : RollType) (m over : ℕ)
    (q : List ℕ) (from : IsAfter entries network m over)
    (is-due : (n now : ℕ) → m ≤ n → over ≤ now → IsAfter entries network n now → now ≤ time
    → ((k : ℕ) → m ≤ k → k < n → DoesAt start_of calls entries k roll → ⊥)
    → IsDue (watch.policy now) (watch.view n now) roll q)
    (cost : ℕ → ℕ) (free : cost m ≡ 0) (more : (n : ℕ) → m ≤ n → cost (suc n) ≡ cost n + lag)
    (enough : over + cost (suc (length entries)) ≤ time) where
  abbrev Waits : ℕ → Type 0
  Waits n = (network.made n ≤ over + cost n)
      × ((k : ℕ) → m ≤ k → k < n → DoesAt start_of calls entries k roll → ⊥)

  -- the start lists the key
  abbrev Starts : ℕ → Type 0
  Starts s = (olds news : List (List ℕ)) × (now : ℕ)
      × IsAccepted calls entries s (keyset.StartRoll roll olds news now)
      × (is_listed olds q ≡ true)

  abbrev Started : ℕ → Type 0
  Started n = (s : ℕ) × (m ≤ s) × (s < n) × (network.made (suc s) ≤ over + cost (suc s)) × Starts s

  -- at the first moment after n calls at which the key's time is over
  abbrev now-at : ℕ → ℕ
  now-at n = max (network.made n) over

  after-at : (n : ℕ) → m ≤ n → n ≤ length entries → IsAfter entries network n (now-at n)
  after-at n later within = (
    within,
    omega arith,
    λ lt.
        let between = in-turn run all (suc m) (suc n) (omega (arith, later)) (omega (arith, lt)) in
        omega (arith, all.in_order n lt, from.2 (omega (arith, later, lt)), between),
  )

  in-time-at : (n : ℕ) → m ≤ n → n ≤ length entries → network.made n ≤ over + cost n
      → now-at n + lag ≤ time
  in-time-at n later within made =
      let most = costs-grow cost lag m more (suc n) (suc (length entries))
      (omega (arith, later)) (omega (arith, within)) in
      omega (arith, made, more n later, most, enough)

  soon : (n : ℕ) → m ≤ n → n ≤ length entries → Waits n
      → (n < length entries) × (network.made (suc n) ≤ over + cost (suc n))
      × IsDue (watch.policy (now-at n)) (watch.view n (now-at n)) roll q
  soon n later within h =
      let after = after-at n later within in
      let made = h.0 in
      let lag-in = in-time-at n later within made in
      let due = is-due n (now-at n) later (omega arith) after (omega (arith, lag-in)) h.1 in
      let x = all.prompt n (now-at n) after lag-in
      (due-said (watch.policy (now-at n)) (watch.view n (now-at n)) roll q due) in
      (x.0, omega (arith, x.1, made, more n later), due)

  -- a start of the roll lists the key
  starts-with : (n : ℕ) → m ≤ n → n ≤ length entries → Waits n
      → (d : DoesAt start_of calls entries n roll) → Starts n
  starts-with n later within h d = elim (all.are_said n d.call d.call_is) [
    | inl a ↦ absurd (add-starts d.call a roll d.roll_is)
    | inr s ↦ on d.call refl d.roll_is s.0 s.1 s.2 s.3
  ]
    where
      due : IsDue (watch.policy (now-at n)) (watch.view n (now-at n)) roll q
      due = (soon n later within h).2

      on : (c : Call) → d.call ≡ c → start_of d.call ≡ Some roll → (now : ℕ)
          → IsAfter entries network n now → now ≤ time
          → said watch n now ≡ Make (call_of d.call) → Starts n
      on (StartRoll r old new at) is starts now after le says =
          let r-is : r ≡ roll = same_Some r roll (sym (ap start_of is) ∙ starts) in
          let call : call_of d.call ≡ keyset.StartRoll roll (texts old.now) (texts new.now) at =
          ap call_of is ∙ ap (λ r. keyset.StartRoll r (texts old.now) (texts new.now) at) r-is in
          let may-be : May (watch.policy now) (watch.view n now)
          (keyset.StartRoll roll (texts old.now) (texts new.now) at) =
          subst (May (watch.policy now) (watch.view n now)) call
          (may-next (watch.policy now) (watch.view n now) (call_of d.call) says) in
          let fits = in-time-at n later within h.0 in
          let view = (all.known n (now-at n) (after-at n later within) (omega (arith, fits))).0 in
          let set : (watch.view n (now-at n)).set ≡ (watch.view n now).set =
          view.set ∙ sym (all.known n now after le).0.set in
          let there : get (watch.view n now).set.keys q ≡ Some due.key =
          ap (λ (set : KeySetParts). get set.keys q) (sym set) ∙ due.there in (
            texts old.now,
            texts new.now,
            at,
            (
              record {
                made = d.call;
                entry = d.entry;
                made_is = d.call_is;
                entry_is = d.entry_is;
                call_is = call;
              },
              d.accepted,
            ),
            ap (λ olds. is_listed olds q) may-be.1.olds_are
                ∙ listed-in (goes roll) (entries_of (watch.view n now).set.keys) q due.key
                (sym (get-entries (watch.view n now).set.keys q) ∙ there)
                (works-goes roll due.key (scheme-renews (watch.policy (now-at n)).scheme roll
                due.renews) due.works),
          )
      on c is starts now after le says = absurd (none-some roll (sym (ap start_of is) ∙ starts))

  starts-now : (n : ℕ) (c : Call) (e : Entry) → slice_get calls n ≡ Some c
      → slice_get entries n ≡ Some e → DoesAt start_of calls entries n roll
      ⊎ (DoesAt start_of calls entries n roll → ⊥)
  starts-now n c e ci ei = elim (cases_Bool (is_accepted e.reply)) [
    | inl ok ↦ by (start_of c) refl ok
    | inr off ↦ inr (λ d.
        let its : d.entry ≡ e = same_Some d.entry e (sym d.entry_is ∙ ei) in
        true≢false (sym d.accepted ∙ ap (λ (e : Entry). is_accepted e.reply) its ∙ off))
  ]
    where
      it : (d : DoesAt start_of calls entries n roll) → d.call ≡ c
      it d = same_Some d.call c (sym d.call_is ∙ ci)

      by : (o : Option RollType) → start_of c ≡ o → is_accepted e.reply ≡ true
          → DoesAt start_of calls entries n roll ⊎ (DoesAt start_of calls entries n roll → ⊥)
      by None is ok = inr (λ d. none-some roll (sym is ∙ ap start_of (sym (it d)) ∙ d.roll_is))
      by (Some r) is ok = elim (cases_Bool (same_roll r roll)) [
        | inl same ↦ inl (record {
          call = c;
          entry = e;
          call_is = ci;
          entry_is = ei;
          accepted = ok;
          roll_is = is ∙ ap Some (same-is r roll same);
        })
        | inr apart ↦ inr (λ d.
            let its : r ≡ roll = same_Some r roll
            (sym is ∙ ap start_of (sym (it d)) ∙ d.roll_is) in
            true≢false (sym (same-same roll) ∙ subst (λ r. same_roll r roll ≡ false) its apart))
      ]

  next : (n : ℕ) (c : Call) (e : Entry) → m ≤ n → suc n ≤ length entries
      → slice_get calls n ≡ Some c → slice_get entries n ≡ Some e → Waits n
      → Started (suc n) ⊎ Waits (suc n)
  next n c e later within ci ei h =
      let x = soon n later (omega (arith, within)) h in
      elim (starts-now n c e ci ei) [
        | inl d ↦ inl (
          n,
          later,
          omega arith,
          x.1,
          starts-with n later (omega (arith, within)) h d,
        )
        | inr none ↦ inr (
          x.1,
          λ k after before d. elim (cases_lt k n) [
            | inl lt ↦ h.1 k after lt d
            | inr ge ↦
                let same : k ≡ n = omega (arith, before, ge) in
                none (subst (λ k. DoesAt start_of calls entries k roll) same d)
          ],
        )
      ]

  started : m ≤ length entries → Started (length entries)
  started within = elim (since run (λ n. Started n ⊎ Waits n) m
      (inr (first, λ k after before d. absurd (omega (arith, after, before))))
      (λ n c e later most ci ei h. elim h [
        | inl x ↦ (let before = x.2 in inl (x.0, x.1, omega (arith, before), x.3, x.4))
        | inr w ↦ next n c e later most ci ei w
      ]) (length entries) within (omega arith)) [
        | inl x ↦ x
        | inr w ↦
            absurd (omega (arith, (soon (length entries) within (omega arith) w).0))
      ]
    where
      first : network.made m ≤ over + cost m
      first = omega (arith, from.1)

pub keys-leave : KeysLeave
keys-leave name calls entries network watch lag time roll delays ttl m over q run all spread ttls
    from is-due enough =
    let x = started run all roll m over q from is-due (λ n. lag * (n - m)) (none-by lag m)
    (λ n later. more-by lag m n later) (omega (arith, enough)) from.0 in
    let s = x.0 in
    let later = x.1 in
    let st = x.4 in
    let all-lags = sum-by lag m s (length entries) later (omega (arith, x.2)) in
    let e = rolls-end name calls entries network watch lag time roll delays ttl s st.0 st.1 st.2 run
    all spread ttls st.3 (omega (arith, x.3, all-lags, enough)) in
    let n = e.0 in
    let done = e.1 in
    let after = done.0 in
    let lags = sum-by lag m s n later (omega (arith, after)) in
    let finish = rolls-finish run (automatic-plain run (auto run all)).setters s n roll st.0 st.1
    st.2 after st.3 done.1 done.2 in
    (s, n, later, done, omega (arith, e.2, x.3, lags), finish.0 q st.4)
