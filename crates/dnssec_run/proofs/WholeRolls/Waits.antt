-- A wait in its phase lasts exactly until the TTL has passed since its report. First, what a wait
-- is answered if its stamps are known: for `waits`.
use Rattle.std.proofs.lemmas.Option.{none-some, slice_get_within}
use Rattle.std.proofs.Common.{◌≡◌, ℕ, zero, suc, ◌+◌, ◌-◌, ◌*◌, ◌≤◌, inl, inr, true, refl, sym, ◌∙◌}
use Rattle.std.proofs.Common.{ap, subst, arith, List, Some, length}
use Rattle.std.specs.{Prelude.slice_get, Prelude.unwrap_or, Cmp.Lexicographic.slice_cmp}
use Rattle.std.specs.{Ordering.nat_cmp, FinMap.get, FinMap.get-empty}
use Rattle.dnssec_key.specs.declared.roll.RollType.{RollType, TheVariants.ZskDoubleSignatureRoll}
use Rattle.dnssec_key.specs.declared.roll.RollState.{RollState}
use Rattle.dnssec_key.specs.declared.roll.RollState.TheVariants.{CacheExpire1, CacheExpire2}
use Rattle.dnssec_key.specs.declared.roll.Half.{Half}
use Rattle.dnssec_key.specs.declared.roll.Half.TheVariants.{First, Second}
use Rattle.dnssec_key.specs.RollTable.{cache_expire}
use Rattle.dnssec_zone.specs.{Rolls.phase_of, Wait.longest_left, Wait.time_left}
use Rattle.dnssec_zone.proofs.Flags.{SideOf, Zone}
use Rattle.dnssec_zone.proofs.Longest.{longest-is, none-left, some-left}
use Rattle.dnssec_keyset.specs.KeySet.{KeySetParts}
use Rattle.dnssec_keyset.proofs.ByClearance.{StepBy, by-clearance}
use Rattle.dnssec_run.specs.Record.{IsRun, call_of, reply_of, world_at, call_moment}
use Rattle.dnssec_run.specs.WholeRolls.{WaitsUntil, IsMade, NeverFalls, LastReport, counts_from}
use Rattle.dnssec_run.specs.WholeRolls.{WaitsExactly}
use Rattle.dnssec_run.proofs.Chain.History.{time_grows, time_now, time_mono}
use Rattle.dnssec_run.proofs.WholeRolls.Armed.{Armed, late-step, NoneLater, beside-same, zds}
use Rattle.dnssec_run.proofs.WholeRolls.Armed.{zds_facts}
use Rattle.dnssec_run.proofs.WholeRolls.Keys.{Expiring, dates, fits_of, roll_now}
use Rattle.dnssec_run.proofs.WholeRolls.Order.{by-time, in-order, nothing_set}
use Rattle.dnssec_run.proofs.WholeRolls.Replies.{outcome, position-is, since, step-made}
use Rattle.dnssec_run.proofs.WholeRolls.Reports.{Says, Arms, Data, data-beside, data-step}
use Rattle.dnssec_run.specs.{declared.call.Call.Call, declared.record.Entry.Entry, Safe.position_at}
use Rattle.dnssec_run.{specs.Safe.time_at, proofs.Laws.made-at, proofs.Laws.stays-sound}
use Rattle.dnssec_run.proofs.{Premise.SetsNothing, Premise.sets-nothing, Chain.Facts.stays_facts}
use Rattle.dnssec_run.proofs.Chain.{RollFacts.timed_first, Tables.reads-stamp, Tables.checked}
use Rattle.dnssec_run.proofs.{Chain.Trust.moment, Chain.Trust.plainly, WholeRolls.OrderedKeys.Order}
use Rattle.dnssec_run.proofs.WholeRolls.OrderedKeys.{in-order-at}
use Rattle.dnssec_zone.specs.Wait as waits
use Rattle.dnssec_keyset.specs.Step as keyset

-- ---- what a wait is answered if its stamps are known

-- a wait that goes on with this key reads its stamp
reads : (set : KeySetParts) → ((sd : SideOf) → Order sd set) → (r : RollType) (half : Half)
    (ttl m : ℕ) → roll_now set r ≡ Some (cache_expire half ttl) → (a : Armed r half m set)
    → checked r half a.key.1.keytype ≡ true
reads set h ZskDoubleSignatureRoll Second ttl m e a =
    (zds_facts a.key.1.keytype).2 (fits_of Zone (Expiring Second zds) a.key.1.keytype
    (dates a.key.1) (in-order-at Zone set (h Zone) a.key.0 a.key.1 a.key.2 zds (CacheExpire2 ttl)
    (Expiring Second zds) refl refl e)) a.key.3
reads set h r First ttl m e a = (stays_facts r First a.key.1.keytype a.key.3).check (timed_first r)
reads set h r Second ttl m e a = (stays_facts r Second a.key.1.keytype a.key.3).check refl

-- the wait's clearance, from the latest stamp that it checks
module _ (set : KeySetParts) (h : (sd : SideOf) → Order sd set) (r : RollType) (half : Half)
    (ttl now m : ℕ) (phase : roll_now set r ≡ Some (cache_expire half ttl))
    (armed : Armed r half m set) (le : m ≤ now) where
  -- no key has more left than the one with the report's stamp
  longest : longest_left r half ttl now set.keys ≡ ttl * 1_000_000_000 - (now - m)
  longest = longest-is (time_left r half ttl now) set.keys (ttl * 1_000_000_000 - (now - m))
      (λ q k e. let most = armed.bound q k in
      grind (arith, most, reads-stamp r half k.timestamps, e))
      armed.key.0 armed.key.1 armed.key.2
      (let on = reads set h r half ttl m phase armed in
      let is = reads-stamp r half armed.key.1.timestamps in
      let has = armed.has_it in
      grind arith)

  clearance_is : keyset.wait_clearance r half now set
      ≡ waits.early_by (ttl * 1_000_000_000 - (now - m))
  clearance_is = by-time set h r half ttl now phase ∙ ap waits.early_by longest

  -- what the wait is answered
  pub answers : (new : KeySetParts) (reply : keyset.Reply)
      → keyset.Step set (keyset.Wait r half now) reply new
      → WaitsUntil (m + ttl * 1_000_000_000) now reply
      (keyset.accepted_reply (keyset.Wait r half now))
  answers new reply step = record {
    early = λ lt. let x = by (waits.Early (ttl * 1_000_000_000 - (now - m)))
        (some-left _ (omega arith)) in (x.0.0, x.0.1, x.0.2 ∙ omega arith);
    over = λ ge. elim (by waits.Clear (none-left _ (omega arith)))
        [ inl ok ↦ inl ok.0 | inr memory ↦ inr memory.1 ];
  }
    where
      by : (v : waits.Clearance) → waits.early_by (ttl * 1_000_000_000 - (now - m)) ≡ v
          → StepBy v set (keyset.Wait r half now) reply new
      by v is = subst (λ v. StepBy v set (keyset.Wait r half now) reply new) (clearance_is ∙ is)
          (by-clearance set new (keyset.Wait r half now) reply step)

-- ---- at each position

module _ {name : List ℕ} {calls : List Call} {entries : List Entry} (run : IsRun name calls entries)
    (plain : SetsNothing name calls entries) (never : NeverFalls calls) where
  abbrev set_at : ℕ → KeySetParts
  set_at n = (world_at name calls entries n).set

  record Clock (n : ℕ) : Type 0 where
    late : NoneLater (time_at entries n) (set_at n)
    data_of : (r : RollType) (p : RollState) → roll_now (set_at n) r ≡ Some p
        → Data entries (set_at n) n r p

  -- no time up to a call is later than its moment
  time_upto : (n : ℕ) (c : Call) (now : ℕ) → slice_get calls n ≡ Some c → call_moment c ≡ Some now
      → (k : ℕ) → k ≤ suc n → k ≤ length entries → time_at entries k ≤ now
  unfolding time_at
  time_upto n c now ci mo zero le within = omega arith
  time_upto n c now ci mo (suc k) le within =
      let before = time_upto n c now ci mo k (omega arith) (omega arith) in
      let x = made-at run k within in
      let at = (position-is run k x.0 x.1 x.2 x.3).1 in
      let most : (m : ℕ) → call_moment x.0 ≡ Some m → m ≤ now =
      λ m e. never k n x.0 c m now (omega arith) x.2 ci e mo in
      let here : unwrap_or (position_at entries (suc k)).moment 0 ≤ now = grind (arith, at, most) in
      omega arith

  clock-next : (n : ℕ) (c : Call) (e : Entry) → suc n ≤ length entries
      → slice_get calls n ≡ Some c → slice_get entries n ≡ Some e → Clock n → Clock (suc n)
  clock-next n c e within ci ei h = elim (outcome run n c e ci ei) [
    | inl x ↦ record {
      late = λ q k s y at st.
          let before = h.late q k s y (ap (λ (set : KeySetParts). get set.keys q) (sym x.1) ∙ at)
          st in
          let more = time_grows entries n in
          omega arith;
      data_of = λ r p at. data-beside entries n (set_at n) (set_at (suc n)) r
          (beside-same r (set_at n) (set_at (suc n))
          (λ q. ap (λ (set : KeySetParts). get set.keys q) x.1))
          (λ s ttl e. let other = sym x.2 ∙ e in cc) p
          (h.data_of r p (ap (λ (set : KeySetParts). phase_of set.rolls r) (sym x.1) ∙ at));
    }
    | inr d ↦
        let clean = nothing_set (set_at n) c (plain n c ci) in
        let mo : (position_at entries (suc n)).moment ≡ moment (call_of c) =
        (position-is run n c e ci ei).1 ∙ (plainly c).moment_is in
        let late : NoneLater (time_at entries (suc n)) (set_at (suc n)) =
        late-step (time_at entries n) (time_at entries (suc n)) (time_grows entries n)
        (set_at n) (set_at (suc n)) h.late c clean
        (λ now m. time_now entries (suc n) now (mo ∙ m)) d.2 in
        record {
          late = late;
          data_of = data-step entries n (set_at n) (set_at (suc n)) (in-order run plain n)
              (stays-sound run n (omega arith)).rolls (call_of c) clean d.1 d.2 d.3 d.5 mo
              (λ now m q k s x at st. let top = late q k s x at st in
              let so = time_upto n c now ci ((plainly c).moment_is ∙ m) (suc n) (omega arith)
              within in omega arith) h.data_of;
        }
  ]

  clocks : (n : ℕ) → n ≤ length entries → Clock n
  unfolding world_at
  clocks n within = since run Clock 0 (record {
    late = λ q k s x e f. absurd (none-some k (sym (get-empty (slice_cmp nat_cmp) q) ∙ e));
    data_of = λ r p e. absurd (none-some p e);
  }) (λ n c e later. clock-next n c e) n (omega arith) within

  -- the reports that a wait counts from
  counted : (n : ℕ) → n ≤ length entries → (r : RollType) (h : Half) (ttl : ℕ)
      → roll_now (set_at n) r ≡ Some (cache_expire h ttl)
      → Arms entries (set_at n) n r h × Says entries n r h ttl
  counted n within r First ttl phase =
      let d = (clocks n within).data_of r (CacheExpire1 ttl) phase in (d.0, d.1)
  counted n within r Second ttl phase = (clocks n within).data_of r (CacheExpire2 ttl) phase

  -- once the TTL has passed since the report that it counts from, nothing bars a wait
  pub clear-from : (n : ℕ) → n ≤ length entries → (r : RollType) (h : Half) (ttl : ℕ)
      → roll_now (set_at n) r ≡ Some (cache_expire h ttl)
      → (from : LastReport entries r (counts_from r h) n)
      × ((now : ℕ) → from.moment + ttl * 1_000_000_000 ≤ now
      → keyset.wait_clearance r h now (set_at n) ≡ waits.Clear)
  clear-from n within r h ttl phase =
      let arms = (counted n within r h ttl phase).0 in (
        arms.0,
        λ now le. clearance_is (set_at n) (in-order run plain n) r h ttl now arms.0.moment phase
            arms.1 (omega (arith, le)) ∙ none-left _ (omega (arith, le)),
      )

  -- what the record says of the wait, and what the wait is answered
  exactly : (n : ℕ) (r : RollType) (h : Half) (now ttl : ℕ)
      → (wait : IsMade calls entries n (keyset.Wait r h now))
      → roll_now (set_at n) r ≡ Some (cache_expire h ttl)
      → (last : LastReport entries r h n) × (last.ttl ≡ ttl)
      × (from : LastReport entries r (counts_from r h) n)
      × WaitsUntil (from.moment + last.ttl * 1_000_000_000) now (reply_of wait.entry.reply)
      (keyset.accepted_reply (keyset.Wait r h now))
  exactly n r h now ttl wait phase =
      let d = counted n within r h ttl phase in
      let its = phase ∙ ap (λ t. Some (cache_expire h t)) (sym d.1.1) in
      let mo = (plainly wait.made).moment_is ∙ ap moment wait.call_is in
      let said : d.0.0.moment ≤ time_at entries d.0.0.at =
      time_now entries d.0.0.at d.0.0.moment d.0.0.moment_is in
      let later : time_at entries d.0.0.at ≤ time_at entries n =
      time_mono entries d.0.0.at n d.0.0.within in
      let before : time_at entries n ≤ now =
      time_upto n wait.made now wait.made_is mo n (omega arith) within in (
        d.1.0,
        d.1.1,
        d.0.0,
        answers (set_at n) (in-order run plain n) r h d.1.0.ttl now d.0.0.moment its d.0.1
            (omega arith) (set_at (suc n)) (reply_of wait.entry.reply)
            (step-made run n (keyset.Wait r h now) wait),
      )
    where
      within : n ≤ length entries
      within = let lt = slice_get_within entries n wait.entry wait.entry_is in omega arith

-- each wait in its phase lasts exactly as long as its report says
pub waits-exactly : {name : List ℕ} {calls : List Call} {entries : List Entry}
    → IsRun name calls entries → WaitsExactly name calls entries
waits-exactly run only never n roll half now ttl wait phase =
    exactly run (sets-nothing run only) never n roll half now ttl wait phase
