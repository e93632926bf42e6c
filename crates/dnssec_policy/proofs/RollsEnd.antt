-- From its start on a roll goes from one phase to the next, each within its time, until it is done.
use Rattle.std.proofs.Common.{◌≡◌, ℕ, suc, ◌+◌, ◌*◌, ◌<◌, ◌≤◌, ◌⊎◌, inl, inr, Bool, true, ◌∙◌}
use Rattle.std.proofs.Common.{false, List, None, Some, length, max, refl, sym, ap, subst, arith}
use Rattle.std.proofs.lemmas.Bool.{cases_Bool, cases_lt, true≢false}
use Rattle.std.proofs.lemmas.Option.{none-some, same_Some, slice_get_within}
use Rattle.std.specs.Prelude.{if◌then◌else◌, slice_get, ◌-◌}
use Rattle.dnssec_key.specs.declared.roll.RollState.{RollState}
use Rattle.dnssec_key.specs.declared.roll.RollState.TheVariants.{Propagation1, CacheExpire1}
use Rattle.dnssec_key.specs.declared.roll.RollState.TheVariants.{Propagation2, CacheExpire2, Done}
use Rattle.dnssec_key.specs.declared.roll.{Half.Half, RollType.RollType}
use Rattle.dnssec_key.specs.declared.roll.Half.TheVariants.{First, Second}
use Rattle.dnssec_key.specs.RollTable.{after_expiry, cache_expire, is_second}
use Rattle.dnssec_zone.specs.{Rolls.phase_of, Rolls.same_roll, Start.together}
use Rattle.dnssec_zone.specs.Wait as waits
use Rattle.dnssec_keyset.specs.KeySet.{KeySetParts}
use Rattle.dnssec_keyset.specs.Step as keyset
use Rattle.dnssec_keyset.proofs.{Changes.Changes, Laws.no_cause, Laws.same-is}
use Rattle.dnssec_run.specs.declared.{call.Call.Call, record.Entry.Entry}
use Rattle.dnssec_run.specs.declared.record.Mark.TheVariants.{Other, Report, Step}
use Rattle.dnssec_run.specs.Plain.{DoesAt}
use Rattle.dnssec_run.specs.Record.{IsRun, call_of, is_accepted, world_at}
use Rattle.dnssec_run.specs.Safe.{SetKind, base_below, is_step, position_at}
use Rattle.dnssec_run.specs.WholeRolls.{IsAccepted, propagation}
use Rattle.dnssec_run.proofs.Chain.{Allowed.spreads, Allowed.waits_in_phase, Rolls.same-same}
use Rattle.dnssec_run.proofs.Chain.{History.base_here, History.base_same, Trust.mark}
use Rattle.dnssec_run.proofs.{Effects.is_on, Effects.phase_put, Effects.phases, Premise.end_of}
use Rattle.dnssec_run.proofs.Asked.Reports.{unstepped}
use Rattle.dnssec_run.proofs.WholeRolls.Replies.{outcome, since, start-beside, world_of}
use Rattle.dnssec_run.specs.WholeRolls as rolls
use Rattle.dnssec_network.specs.Network.{Network}
use Rattle.dnssec_policy.specs.Automatic.{is_last, last_below}
use Rattle.dnssec_policy.specs.Delays.{AreMade, Delays, HasTtls, IsAfter, IsDone, RollsEnd}
use Rattle.dnssec_policy.specs.Delays.{SpreadWithin, Watch, roll_lasts, said}
use Rattle.dnssec_policy.specs.{Todo.rank, Ttls.report_takes}
use Rattle.dnssec_policy.proofs.Delays.{NoneReported, and-no, counts, end-said, ends-by}
use Rattle.dnssec_policy.proofs.Delays.{ends-on, never-aborts, none-more, none-yet, report-said}
use Rattle.dnssec_policy.proofs.Delays.{not-beside-itself, second-off, unreported, wait-said}
use Rattle.dnssec_policy.proofs.Lags.{all-within, begins_by, costs-grow, lasts_by, more-by, none-by}
use Rattle.dnssec_policy.proofs.Steps.{last-seen, second_of}

module _ {name : List ℕ} {calls : List Call} {entries : List Entry} {network : Network}
    {watch : Watch} {lag time : ℕ} (run : IsRun name calls entries)
    (all : AreMade name calls entries network watch lag time)
    {roll : RollType} {delays : Delays} {ttl : SetKind → ℕ}
    (spread : SpreadWithin entries network watch time roll delays)
    (ttls : HasTtls entries network watch time roll ttl) (s : ℕ) where
  abbrev set_at : ℕ → KeySetParts
  set_at n = (world_at name calls entries n).set

  -- the time that each half's wait may take
  module _ (wait : Half → ℕ)
      (counts : (n : ℕ) (c : Call) → slice_get calls n ≡ Some c → (half : Half) (t now : ℕ)
      → call_of c ≡ keyset.Report roll half t now → t ≤ wait half) (cost : ℕ → ℕ)
      (free : cost (suc s) ≡ 0) (more : (n : ℕ) → s < n → cost (suc n) ≡ cost n + lag)
      (whole : ℕ)
      (whole_is : delays.start + delays.first + delays.second
      + (wait First + wait Second) * 1_000_000_000 ≡ whole)
      (enough : network.made (suc s) + whole + cost (suc (length entries)) ≤ time) where
    costs : (m n : ℕ) → s < m → m ≤ n → cost m ≤ cost n
    costs m n later le = costs-grow cost lag (suc s) (λ n from. more n (omega (arith, from))) m n
        (omega (arith, later)) le

    abbrev begins : RollState → ℕ
    begins = begins_by delays wait

    abbrev lasts : RollState → ℕ
    lasts = lasts_by delays wait

    -- a position is reached within its phase, with a lag for each call
    abbrev InTime : ℕ → RollState → Type 0
    InTime n p = network.made n ≤ network.made (suc s) + begins p + lasts p + cost n

    -- what the roll waits for came at this position
    abbrev Anchor : ℕ → ℕ → RollState → Type 0
    Anchor n at Propagation1 = base_below entries roll (suc n) ≡ Some at
    Anchor n at (CacheExpire1 t) = (t ≤ wait First) × NoneReported run all roll at n
    Anchor n at Propagation2 = base_below entries roll (suc n) ≡ Some at
    Anchor n at (CacheExpire2 t) = (t ≤ wait Second) × NoneReported run all roll at n
    Anchor n at Done = last_below calls entries roll n ≡ Some at

    record Stage (n : ℕ) (p : RollState) : Type 0 where
      at : ℕ
      below : at ≤ n
      later : s < at
      begun : network.made at ≤ network.made (suc s) + begins p + cost at
      so_far : InTime n p
      anchor : Anchor n at p

    over : (half : Half) (t at now : ℕ) → t ≤ wait half
        → network.made at + wait half * 1_000_000_000 ≤ now
        → network.made at + t * 1_000_000_000 ≤ now
    over half t at now less past = omega (arith, less, past)

    -- once its time is over, a call is said
    due : (n now : ℕ) → IsAfter entries network n now → now ≤ time → (p : RollState)
        → phase_of (set_at n).rolls roll ≡ Some p → (st : Stage n p)
        → network.made st.at + lasts p ≤ now → rank (said watch n now) ≡ 0
    due n now after le Propagation1 is st past =
        report-said run all spread ttls n now after le First st.at is st.anchor past
    due n now after le (CacheExpire1 t) is st past =
        wait-said run all spread ttls n now after le First t st.at st.below is st.anchor.1
        (over First t st.at now st.anchor.0 past)
    due n now after le Propagation2 is st past =
        report-said run all spread ttls n now after le Second st.at is st.anchor past
    due n now after le (CacheExpire2 t) is st past =
        wait-said run all spread ttls n now after le Second t st.at st.below is st.anchor.1
        (over Second t st.at now st.anchor.0 past)
    due n now after le Done is st past =
        end-said run all spread ttls n now after le st.at is st.anchor past

    -- so the next call comes in time
    soon : (n : ℕ) → s < n → n ≤ length entries → (p : RollState)
        → phase_of (set_at n).rolls roll ≡ Some p → Stage n p
        → (n < length entries) × InTime (suc n) p
    soon n from within p is st =
        let so_far : InTime n p = st.so_far in
        let grown = costs st.at n st.later st.below in
        let next = more n from in
        let now = max (network.made n) (network.made st.at + lasts p) in
        let on : (n < length entries → now ≤ network.made (suc n))
        → (n < length entries) × InTime (suc n) p = λ high.
        let after : IsAfter entries network n now = (within, omega arith, high) in
        let most = costs (suc n) (suc (length entries)) (omega (arith, from))
        (omega (arith, within)) in
        let part = all-within delays wait whole whole_is p in
        let in_time : now + lag ≤ time =
        omega (arith, st.begun, so_far, grown, next, most, part, enough) in
        let x = all.prompt n now after in_time
        (due n now after (omega (arith, in_time)) p is st (omega arith)) in
        (x.0, omega (arith, x.1, st.begun, so_far, grown, next)) in
        elim (cases_lt n (length entries)) [
          | inl lt ↦ elim (cases_lt (network.made (suc n)) now) [
            | inl early ↦ (lt, omega (arith, early, st.begun, so_far, grown, next))
            | inr late ↦ on (λ lt. late)
          ]
          | inr ge ↦ on (λ lt. absurd (omega (arith, lt, ge)))
        ]

    record Running (n : ℕ) : Type 0 where
      phase : RollState
      is : phase_of (set_at n).rolls roll ≡ Some phase
      stage : Stage n phase
      none : (m : ℕ) → s < m → m < n → DoesAt rolls.end_of calls entries m roll → ⊥

    abbrev Ended : ℕ → Type 0
    Ended n = (d : ℕ) × (d < n) × IsDone calls entries roll s d
        × (network.made (suc d) ≤ network.made (suc s) + whole + cost (suc d))

    module _ (n : ℕ) (c : Call) (e : Entry) (from : s < n) (within : suc n ≤ length entries)
        (ci : slice_get calls n ≡ Some c) (ei : slice_get entries n ≡ Some e) (h : Running n)
      where
        in_time : InTime (suc n) h.phase
        in_time = (soon n from (omega (arith, within)) h.phase h.is h.stage).1

        ends-here : DoesAt rolls.end_of calls entries n roll
            → (end_of (call_of c) ≡ Some roll) × (is_accepted e.reply ≡ true)
        ends-here = ends-by calls entries n roll c e ci ei

        none-on : (DoesAt rolls.end_of calls entries n roll → ⊥)
            → (m : ℕ) → s < m → m < suc n → DoesAt rolls.end_of calls entries m roll → ⊥
        none-on here m after before d = elim (cases_lt m n) [
          | inl lt ↦ h.none m after lt d
          | inr ge ↦
              let same : m ≡ n = omega (arith, before, ge) in
              here (subst (λ m. DoesAt rolls.end_of calls entries m roll) same d)
        ]

        -- a call beside the roll: no step, no report, no last wait of it
        abbrev IsBeside : Type 0
        IsBeside = (is_step roll (position_at entries (suc n)).mark ≡ false)
            × ((second : Bool) (t : ℕ) → (position_at entries (suc n)).mark ≡ Report roll second t
            → ⊥)
            × (is_last roll (slice_get calls n) (slice_get entries n) ≡ false)

        -- it leaves the roll's phase
        anchored : IsBeside → (at : ℕ) (p : RollState) → Anchor n at p → Anchor (suc n) at p
        unfolding last_below
        anchored beside at Propagation1 a = base_same entries roll (suc n) beside.0 ∙ a
        anchored beside at (CacheExpire1 t) a = (a.0, none-more run all roll at n beside.1 a.1)
        anchored beside at Propagation2 a = base_same entries roll (suc n) beside.0 ∙ a
        anchored beside at (CacheExpire2 t) a = (a.0, none-more run all roll at n beside.1 a.1)
        anchored beside at Done a = rw beside.2 a

        stays : IsBeside
            → phase_of (set_at (suc n)).rolls roll ≡ phase_of (set_at n).rolls roll
            → (DoesAt rolls.end_of calls entries n roll → ⊥) → Running (suc n)
        stays beside same here = record {
          phase = h.phase;
          is = same ∙ h.is;
          stage = record {
            at = h.stage.at;
            below = omega (arith, h.stage.below);
            later = h.stage.later;
            begun = h.stage.begun;
            so_far = in_time;
            anchor = anchored beside h.stage.at h.phase h.stage.anchor;
          };
          none = none-on here;
        }

        -- a call of the roll brings the next phase
        comes : (p q : RollState) → h.phase ≡ p → phase_of (set_at (suc n)).rolls roll ≡ Some q
            → begins p + lasts p ≡ begins q → Anchor (suc n) (suc n) q
            → (DoesAt rolls.end_of calls entries n roll → ⊥) → Running (suc n)
        comes p q was is sum anchor here =
            let by = subst (InTime (suc n)) was in_time in
            record {
              phase = q;
              is = is;
              stage = record {
                at = suc n;
                below = omega arith;
                later = omega (arith, from);
                begun = omega (arith, by, sum);
                so_far = omega (arith, by, sum);
                anchor = anchor;
              };
              none = none-on here;
            }

        reported : (half : Half) (t : ℕ) → h.phase ≡ propagation half
            → phase_of (set_at (suc n)).rolls roll ≡ Some (cache_expire half t) → t ≤ wait half
            → (DoesAt rolls.end_of calls entries n roll → ⊥) → Running (suc n)
        reported First t was is less here =
            comes Propagation1 (CacheExpire1 t) was is (omega arith)
            (less, none-yet run all roll (suc n)) here
        reported Second t was is less here =
            comes Propagation2 (CacheExpire2 t) was is refl
            (less, none-yet run all roll (suc n)) here

        module _ (ok : is_accepted e.reply ≡ true) where
          not-end : (k : keyset.Call) → call_of c ≡ k → end_of k ≡ None
              → DoesAt rolls.end_of calls entries n roll → ⊥
          not-end k it none d =
              none-some roll (sym (ap end_of it ∙ none) ∙ (ends-here d).0)

          waited : (half : Half) (t : ℕ) (q : RollType) (now : ℕ)
              → call_of c ≡ keyset.Wait q half now
              → (position_at entries (suc n)).mark ≡ mark (keyset.Wait q half now)
              → same_roll roll q ≡ true → h.phase ≡ cache_expire half t
              → phase_of (set_at (suc n)).rolls roll ≡ Some (after_expiry half)
              → (DoesAt rolls.end_of calls entries n roll → ⊥) → Running (suc n)
          unfolding last_below
          waited First t q now it mk its was is here =
              comes (CacheExpire1 t) Propagation2 was is refl
              (base_here entries roll (suc n) (ap (is_step roll) mk ∙ its)) here
          waited Second t q now it mk its was is here =
              let last : is_last roll (slice_get calls n) (slice_get entries n) ≡ true =
              rw (ci, ei)
              (last-seen c e roll ∙ rw (ap (λ k. second_of k roll) it ∙ its, ok) refl) in
              comes (CacheExpire2 t) Done was is refl (rw last refl) here

          -- by the call, if it is one of the roll
          own : (k : keyset.Call) → call_of c ≡ k → is_on k roll ≡ true
              → keyset.clearance (set_at n) k ≡ waits.Clear
              → Changes (set_at n) k (set_at (suc n))
              → (position_at entries (suc n)).mark ≡ mark k → Ended (suc n) ⊎ Running (suc n)
          unfolding last_below
          own (keyset.StartRoll q olds news now) it on v changes mk =
              let q-is = same-is q roll on in
              let goes = start-beside (set_at n) roll h.phase h.is q olds news now v in
              absurd (not-beside-itself roll (subst (λ q. together q roll ≡ true) q-is goes))
          own (keyset.Report q half t now) it on v changes mk =
              let q-is = same-is q roll on in
              let was : phase_of (set_at n).rolls q ≡ Some (propagation half) =
              spreads half (phase_of (set_at n).rolls q) (no_cause _ v) in
              let was-its : h.phase ≡ propagation half = same_Some h.phase (propagation half)
              (sym h.is ∙ ap (phase_of (set_at n).rolls) (sym q-is) ∙ was) in
              let is : phase_of (set_at (suc n)).rolls roll ≡ Some (cache_expire half t) =
              phases (set_at n) (set_at (suc n)) (keyset.Report q half t now) changes roll
              ∙ ap (λ b. if b then Some (cache_expire half t) else phase_of (set_at n).rolls roll)
              on in
              let less = counts n c ci half t now
              (it ∙ ap (λ q. keyset.Report q half t now) q-is) in
              inr (reported half t was-its is less (not-end (keyset.Report q half t now) it refl))
          own (keyset.Wait q half now) it on v changes mk =
              let q-is = same-is q roll on in
              let w = waits_in_phase q half now (world_of (set_at n)) v in
              let was : h.phase ≡ cache_expire half w.0 = same_Some h.phase (cache_expire half w.0)
              (sym h.is ∙ ap (phase_of (set_at n).rolls) (sym q-is) ∙ w.1) in
              let is : phase_of (set_at (suc n)).rolls roll ≡ Some (after_expiry half) =
              phases (set_at n) (set_at (suc n)) (keyset.Wait q half now) changes roll
              ∙ ap (λ b. if b then Some (after_expiry half) else phase_of (set_at n).rolls roll)
              on in
              inr (waited half w.0 q now it mk (ap (same_roll roll) q-is ∙ same-same roll) was is
              (not-end (keyset.Wait q half now) it refl))
          own (keyset.RollDone q) it on v changes mk =
              let q-is = same-is q roll on in
              inl (
                n,
                omega arith,
                (
                  from,
                  (
                    record {
                      made = c;
                      entry = e;
                      made_is = ci;
                      entry_is = ei;
                      call_is = it ∙ ap keyset.RollDone q-is;
                    },
                    ok,
                  ),
                  h.none,
                ),
                omega (arith, in_time, all-within delays wait whole whole_is h.phase),
              )
          own (keyset.AbortRoll q) it on v changes mk =
              absurd (never-aborts run all n c ci q it)
          own _ it on v changes mk = absurd (true≢false (sym on))

        next : Ended (suc n) ⊎ Running (suc n)
        next = elim (outcome run n c e ci ei) [
          | inl y ↦ inr (stays (
            ap (is_step roll) y.2,
            (λ second t mk. let nope : Other ≡ Report roll second t = sym y.2 ∙ mk in
                absurd (cc)),
            rw (ci, ei) (last-seen c e roll ∙ and-no (second_of (call_of c) roll)
                (is_accepted e.reply) (inr y.0)),
          )
              (ap (λ (set : KeySetParts). phase_of set.rolls roll) y.1)
              (λ d. true≢false (sym (ends-here d).1 ∙ y.0)))
          | inr d ↦ elim (cases_Bool (is_on (call_of c) roll)) [
            | inl on ↦ own d.0 (call_of c) refl on d.1 d.2 d.5
            | inr off ↦ inr (stays (
              ap (is_step roll) d.5 ∙ unstepped (call_of c) roll off,
              (λ second t mk. unreported (call_of c) roll off second t (sym d.5 ∙ mk)),
              rw (ci, ei) (last-seen c e roll ∙ and-no (second_of (call_of c) roll)
                  (is_accepted e.reply) (inl (second-off (call_of c) roll off))),
            )
                (phases (set_at n) (set_at (suc n)) (call_of c) d.2 roll
                ∙ ap (λ b. if b then phase_put (call_of c) else phase_of (set_at n).rolls roll) off)
                (λ x. true≢false (sym (ends-on (call_of c) roll (ends-here x).0) ∙ off)))
          ]
        ]

    -- from the start
    started : (olds news : List (List ℕ)) (now : ℕ)
        → IsAccepted calls entries s (keyset.StartRoll roll olds news now) → Running (suc s)
    started olds news now st =
        let m = st.0 in
        elim (outcome run s m.made m.entry m.made_is m.entry_is) [
          | inl y ↦ absurd (true≢false (sym st.1 ∙ y.0))
          | inr d ↦ begun (subst (λ k. Changes (set_at s) k (set_at (suc s))) m.call_is d.2)
              (d.5 ∙ ap mark m.call_is)
        ]
      where
        begun : Changes (set_at s) (keyset.StartRoll roll olds news now) (set_at (suc s))
            → (position_at entries (suc s)).mark ≡ Step roll → Running (suc s)
        begun changes mk = record {
          phase = Propagation1;
          is = phases (set_at s) (set_at (suc s)) (keyset.StartRoll roll olds news now) changes roll
              ∙ ap (λ b. if b then Some Propagation1 else phase_of (set_at s).rolls roll)
              (same-same roll);
          stage = record {
            at = suc s;
            below = omega arith;
            later = omega arith;
            begun = omega arith;
            so_far = omega arith;
            anchor = base_here entries roll (suc s) (ap (is_step roll) mk ∙ same-same roll);
          };
          none = λ m after before d. absurd (omega (arith, after, before));
        }

    pub ended : (olds news : List (List ℕ)) (now : ℕ)
        → IsAccepted calls entries s (keyset.StartRoll roll olds news now)
        → Ended (length entries)
    ended olds news now st =
        let lt = slice_get_within entries s st.0.entry st.0.entry_is in
        elim (since run (λ n. Ended n ⊎ Running n) (suc s) (inr (started olds news now st))
        (λ n c e later most ci ei h. elim h [
          | inl x ↦ (let before = x.1 in inl (x.0, omega (arith, before), x.2, x.3))
          | inr r ↦ next n c e (omega (arith, later)) most ci ei r
        ]) (length entries) (omega (arith, lt)) (omega arith)) [
          | inl x ↦ x
          | inr r ↦
              let on = (soon (length entries) (omega (arith, lt)) (omega arith) r.phase r.is
              r.stage).0 in
              absurd (omega (arith, on))
        ]

pub rolls-end : RollsEnd
rolls-end name calls entries network watch lag time roll delays ttl s olds news now run all spread
    ttls st enough =
    let same : (n : ℕ) → lag * (suc n - suc s) ≡ lag * (n - s) =
    λ n. let one : suc n - suc s ≡ n - s = omega arith in ap (λ k. lag * k) one in
    let x = ended run all spread ttls s (λ half. report_takes ttl roll (is_second half))
    (counts run all spread ttls) (λ n. lag * (n - suc s)) (none-by lag (suc s))
    (λ n later. more-by lag (suc s) n later) (roll_lasts delays ttl roll) refl
    (omega (arith, enough, same (length entries))) olds news now st in
    (x.0, x.2, omega (arith, x.3, same x.0))
