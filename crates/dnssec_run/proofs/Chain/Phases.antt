-- What a roll in progress waits for: its last report, and a key with that report's stamp.
use Rattle.dnssec_run.proofs.Chain.Tables.{written, Stamp, Visible, read}
use Rattle.dnssec_run.proofs.Chain.Tale.{Passes, key_at, Tale, Key, if_some, world_at, started_key}
use Rattle.dnssec_run.proofs.Chain.Tale.{start_key, stamp_of}
use Rattle.dnssec_run.proofs.Chain.Facts.{stays, stays_facts, timed, timer, timer-affects, other}
use Rattle.dnssec_run.proofs.Chain.Facts.{stays_start, stays_wait}
use Rattle.dnssec_run.proofs.Chain.History.{Retired, time_now, time_mono, base_same}
use Rattle.dnssec_run.proofs.Chain.Places.{Fits, some_key, found_key, found_now}
use Rattle.dnssec_run.proofs.Chain.Same.{SameStamps, AlikeBut, alike-map, alike-round, was_there}
use Rattle.dnssec_run.proofs.Chain.Same.{map_but, idle-out, failed-out}
use Rattle.dnssec_run.proofs.Chain.OneKey.{Mapped, Starts, Waits, of_found, goes, suits, may_found}
use Rattle.dnssec_run.proofs.Chain.{Kinds.same_list, KeyCalls.Kept, KeyCalls.founds-kept}
use Rattle.dnssec_run.specs.Safe.{position_at, base_below, is_step}
use Rattle.dnssec_run.specs.declared.record.Mark.TheVariants.{Other, Report}
use Rattle.dnssec_run.specs.{Published.Id}
use Rattle.std.proofs.Common.{◌≡◌, ℕ, suc, ◌≤◌, ◌&&◌, Bool, true, false, sym, ◌∙◌, ap, subst}
use Rattle.std.proofs.Common.{arith, List, Option, Some, not}
use Rattle.std.proofs.lemmas.{Bool.and_from, Option.same_Some}
use Rattle.std.specs.{Prelude.if◌then◌else◌, Option.option_map}
use Rattle.dnssec_key.specs.declared.roll.RollState.TheVariants.{Propagation1, CacheExpire1, Done}
use Rattle.dnssec_key.specs.declared.roll.RollState.TheVariants.{Propagation2, CacheExpire2}
use Rattle.dnssec_key.specs.declared.roll.{RollType.RollType, RollState.RollState}
use Rattle.dnssec_key.specs.declared.kind.KeyType.{KeyType}
use Rattle.dnssec_key.specs.RollTable.{column, after_wait, after_report, cache_expire, is_second}
use Rattle.dnssec_key.specs.declared.roll.Half.{Half}
use Rattle.dnssec_key.specs.declared.roll.Half.TheVariants.{First, Second}
use Rattle.dnssec_zone.proofs.Flags.{Quiet, Early, flags_fit, is_idle}
use Rattle.dnssec_zone.specs.Start.{together, is_listed, lists_kind, side_of}

-- the last report of the half: its position and moment, and a key with that stamp
pub record Reported (tale : Tale) (r : RollType) (half : Half) (n ttl : ℕ) : Type 0 where
  pub at : ℕ
  pub moment : ℕ
  pub within : at ≤ n
  pub mark : (position_at tale.es at).mark ≡ Report r (is_second half) ttl
  pub base_is : base_below tale.es r at ≡ base_below tale.es r (suc n)
  pub moment_is : (position_at tale.es at).moment ≡ Some moment
  pub id : Id
  pub key : Key
  pub there : key_at tale n id ≡ Some key
  pub passes : stays r half key.keytype ≡ true
  pub stamp : timed r half ≡ true → stamp_of (read r half) key ≡ Some moment

abbrev pub Reads : Tale → RollType → Half → ℕ → Type 0
Reads tale r half n = (id : Id) × (Passes tale (stays r half) n id)

pub reads_of : {tale : Tale} {r : RollType} {half : Half} {n ttl : ℕ} → Reported tale r half n ttl
    → Reads tale r half n
reads_of {r = r} {half = half} t = (t.id, ap (if_some (stays r half)) t.there ∙ t.passes)

abbrev pub PhaseOf : Tale → RollType → RollState → ℕ → Type 0
PhaseOf tale r Propagation1 n = Reads tale r First n
PhaseOf tale r (CacheExpire1 ttl) n = Reported tale r First n ttl
PhaseOf tale r Propagation2 n = Reads tale r Second n
PhaseOf tale r (CacheExpire2 ttl) n = Reported tale r Second n ttl
PhaseOf tale r Done n = Unit {0}

abbrev pub Phases : Tale → ℕ → Type 0
Phases tale n = (r : RollType) (p : RollState) → (world_at tale n).roll r ≡ Some p
    → PhaseOf tale r p n

-- a wait that is over has retired each position below the base
pub gone : (tale : Tale) (n : ℕ) (half : Half) (r : RollType) (w : Waits tale n half r)
    → timed r half ≡ true → Reported tale r half n w.ttl → Retired tale.es n r (is_second half)
gone tale n half r w on last kind goes b base q lt =
    let o = w.over last.id.0 last.key (found_key (world_at tale n) last.id last.key last.there).0
    ((stays_facts r half last.key.keytype last.passes).check on) in
    let same : o.0 ≡ last.moment = same_Some _ _ (sym o.1 ∙ last.stamp on) in
    let at_report = time_now tale.es last.at last.moment last.moment_is in
    let later = time_mono tale.es last.at (suc n) (omega (arith, last.within)) in
    let at_now = time_now tale.es (suc n) w.now w.moment in
    record {
      at = last.at;
      roll = r;
      second = is_second half;
      ttl = w.ttl;
      moment = last.moment;
      base = b;
      within = omega (arith, last.within);
      mark = last.mark;
      kind_is = goes;
      base_is = last.base_is ∙ base;
      above = lt;
      moment_is = last.moment_is;
      over = omega (arith, at_report, later, at_now, o.2, same);
    }

-- a start and the waits leave the stamps alone that a wait reads; a report writes its moment
pub start_stamps : (r : RollType) (now : ℕ) (o i : Bool) (k : Key) (s : Stamp) → stamp_of s k
    ≡ stamp_of s (started_key r now o i k)
unfolding column
start_stamps r now o i k s = grind arith

pub wait_stamps : (r : RollType) (half : Half) (now : ℕ) (k : Key) (s : Stamp) → stamp_of s k
    ≡ stamp_of s (after_wait r half now k)
unfolding column
wait_stamps r half now k s = grind arith

pub report_stamp : (s : Stamp) (r : RollType) (half : Half) (now : ℕ) (k : Key)
    → written s r half k.keytype ≡ true → stamp_of s (after_report r half now k) ≡ Some now
report_stamp Visible r half now k e = ap (λ b. if b then Some now else stamp_of Visible k) e
report_stamp s r half now k e = ap (λ b. if b then Some now else stamp_of s k) e

-- ---- a roll that the call is no part of

-- a key that doesn't matter to the roll: it may not list it, or it is idle
abbrev pub spares : RollType → KeyType → Bool
spares q k = not (lists_kind (side_of q) k && not (is_idle k))

-- the same keys with the same stamps, except for those
abbrev pub Beside : RollType → Option Key → Option Key → Type 0
Beside q = AlikeBut SameStamps (spares q)

pub record Aside (tale : Tale) (n : ℕ) (q : RollType) : Type 0 where
  pub keys : (id : Id) → Beside q (key_at tale n id) (key_at tale (suc n) id)
  pub no_step : is_step q (position_at tale.es (suc n)).mark ≡ false

module _ (tale : Tale) (n : ℕ) where
  module _ (q : RollType) (a : Aside tale n q) where
    -- a key that its wait reads
    key_aside : (half : Half) (id : Id) (k : Key) → key_at tale n id ≡ Some k
        → stays q half k.keytype ≡ true
        → (j : Key) × (key_at tale (suc n) id ≡ Some j) × SameStamps j k
    key_aside half id k e t =
        let f = stays_facts q half k.keytype t in
        was_there SameStamps (spares q) (key_at tale (suc n) id) (key_at tale n id)
        (alike-round SameStamps (λ k j e. (sym e.0, λ s. sym (e.1 s))) (spares q)
        (key_at tale n id) (key_at tale (suc n) id) (a.keys id)) k e
        (ap not (and_from _ _ f.touched (ap not f.busy)))

    reads_aside : (half : Half) → Reads tale q half n → Reads tale q half (suc n)
    reads_aside half h =
        let k = some_key (stays q half) (key_at tale n h.0) h.1 in
        let j = key_aside half h.0 k.0 k.1 k.2 in
        (h.0, ap (if_some (stays q half)) j.1 ∙ ap (stays q half) j.2.0 ∙ k.2)

    reported_aside : (half : Half) (ttl : ℕ) → Reported tale q half n ttl
        → Reported tale q half (suc n) ttl
    reported_aside half ttl t = let j = key_aside half t.id t.key t.there t.passes in record {
      at = t.at;
      moment = t.moment;
      within = omega (arith, t.within);
      mark = t.mark;
      base_is = t.base_is ∙ sym (base_same tale.es q (suc n) a.no_step);
      moment_is = t.moment_is;
      id = t.id;
      key = j.0;
      there = j.1;
      passes = ap (stays q half) j.2.0 ∙ t.passes;
      stamp = λ on. j.2.1 (read q half) ∙ t.stamp on;
    }

    pub phase-aside : (p : RollState) → PhaseOf tale q p n → PhaseOf tale q p (suc n)
    phase-aside Propagation1 = reads_aside First
    phase-aside (CacheExpire1 ttl) = reported_aside First ttl
    phase-aside Propagation2 = reads_aside Second
    phase-aside (CacheExpire2 ttl) = reported_aside Second ttl
    phase-aside Done = λ h. tt

  -- a refusal, an add, a deletion
  pub aside-kept : Kept (world_at tale n) (world_at tale (suc n))
      → (position_at tale.es (suc n)).mark ≡ Other → (q : RollType) → Aside tale n q
  aside-kept k mark q = record {
    keys = λ id. alike-map SameStamps SameStamps (λ k j s. s) is_idle (spares q)
        (λ k. idle-out (lists_kind (side_of q) k) k) (key_at tale n id) (key_at tale (suc n) id)
        (founds-kept (world_at tale n) (world_at tale (suc n)) k id);
    no_step = ap (is_step q) mark;
  }

  -- a call of a roll that goes together with it
  pub aside-on : {f : List ℕ → Key → Key} {r : RollType} {o : Option RollState}
      → Mapped tale n f r o → (q : RollType) → together r q ≡ true
      → is_step q (position_at tale.es (suc n)).mark ≡ false → Aside tale n q
  aside-on {f = f} {r = r} m q both_in no_step = record {
    keys = λ id. subst (Beside q (key_at tale n id)) (sym (m.founds id)) (map_but SameStamps
        (lists_kind (side_of q)) (spares q) (failed-out (lists_kind (side_of q))) (f id.0)
        (key_at tale n id) (λ k e. (
          same_list q _ k.keytype (m.kinds id.0 k),
          λ l. let same = sym (m.leaves id.0 k (found_key (world_at tale n) id k e).0
              (other r q k.keytype both_in l)) in
              (ap (λ (k : Key). k.keytype) same, λ s. ap (stamp_of s) same),
        )));
    no_step = no_step;
  }

  -- ---- the roll's own calls

  pub reads-start : (r : RollType) (s : Starts tale n r)
      → ((id : Id) → Fits tale (flags_fit (timer r) Quiet) n id) → Reads tale r First (suc n)
  reads-start r s flags =
      let k = s.can.suitable (timer r) (timer-affects r) in
      let id : Id = (k.0, (world_at tale n).added k.0) in
      let at_key : key_at tale n id ≡ Some k.1 = found_now (world_at tale n) k.0 ∙ k.2 in (
        id,
        ap (if_some (stays r First)) (s.mapped.founds id
            ∙ ap (option_map (start_key r s.now s.old s.new k.0)) at_key)
            ∙ stays_start r (is_listed s.old k.0) (is_listed s.new k.0) k.1.keytype
            (may_found s id k.1 at_key) (of_found (flags_fit (timer r) Quiet) _ k.1 at_key
            (flags id))
            (suits _ _ _ _ k.3),
      )

  pub reads-wait1 : (r : RollType) (w : Waits tale n First r)
      → ((id : Id) → Fits tale (flags_fit (timer r) (Early r)) n id)
      → Reads tale r First n → Reads tale r Second (suc n)
  reads-wait1 r w flags h = (
    h.0,
    goes w.mapped h.0 (stays r First) (stays r Second) (λ k e. stays_wait r k.keytype
        (of_found (flags_fit (timer r) (Early r)) _ k e (flags h.0))) h.1,
  )

  pub reported-now : (r : RollType) (half : Half) (ttl now : ℕ)
      → Mapped tale n (λ q. after_report r half now) r (Some (cache_expire half ttl))
      → (position_at tale.es (suc n)).mark ≡ Report r (is_second half) ttl
      → (position_at tale.es (suc n)).moment ≡ Some now → Reads tale r half n
      → Reported tale r half (suc n) ttl
  reported-now r half ttl now m mark moment h =
      let k = some_key (stays r half) (key_at tale n h.0) h.1 in
      record {
        at = suc n;
        moment = now;
        within = omega arith;
        mark = mark;
        base_is = sym (base_same tale.es r (suc n) (ap (is_step r) mark));
        moment_is = moment;
        id = h.0;
        key = after_report r half now k.0;
        there = m.founds h.0 ∙ ap (option_map (after_report r half now)) k.1;
        passes = k.2;
        stamp = λ on. report_stamp (read r half) r half now k.0
            ((stays_facts r half k.0.keytype k.2).write on);
      }
