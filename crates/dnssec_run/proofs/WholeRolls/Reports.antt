-- What the record says of a roll in each phase, position by position, and that each call keeps it:
-- for `waits`.
use Rattle.std.proofs.Common.{◌≡◌, ℕ, suc, true, false, refl, sym, ◌∙◌, ap, arith, List, Some}
use Rattle.std.proofs.Common.{subst, inl, inr}
use Rattle.std.proofs.lemmas.Bool.{true≢false, cases_lt}
use Rattle.std.specs.{Option.option_map, FinMap.get, Prelude.◌≢◌}
use Rattle.dnssec_key.specs.declared.roll.RollState.TheVariants.{Propagation1, CacheExpire1}
use Rattle.dnssec_key.specs.declared.roll.RollState.TheVariants.{Propagation2, CacheExpire2, Done}
use Rattle.dnssec_key.specs.declared.roll.Half.{Half}
use Rattle.dnssec_key.specs.declared.roll.Half.TheVariants.{First, Second}
use Rattle.dnssec_key.specs.RollTable.{after_report, after_wait, after_expiry}
use Rattle.dnssec_key.specs.RollTable.{cache_expire, after_start, is_second}
use Rattle.dnssec_key.specs.declared.roll.RollType.{RollType, TheVariants.ZskDoubleSignatureRoll}
use Rattle.dnssec_key.specs.{declared.roll.RollState.RollState, Key.KeyParts}
use Rattle.dnssec_zone.specs.Start.{is_listed, lists_kind, side_of, serves_as_new, serves_as_kept}
use Rattle.dnssec_zone.proofs.Flags.{SideOf}
use Rattle.dnssec_keyset.specs.{KeySet.KeySetParts, Laws.LeavesOthers, Laws.RollsTogether}
use Rattle.dnssec_keyset.proofs.{Changes.Changes, Laws.no_cause}
use Rattle.dnssec_run.specs.declared.record.{Entry.Entry, Mark.Mark, Mark.TheVariants.Report}
use Rattle.dnssec_run.specs.Safe.{position_at}
use Rattle.dnssec_run.specs.WholeRolls.{LastReport, counts_from, propagation}
use Rattle.dnssec_run.proofs.Effects.{Own, by-phase, is_on}
use Rattle.dnssec_run.proofs.Chain.Allowed.{can_start, waits_in_phase, spreads}
use Rattle.dnssec_run.proofs.Chain.Facts.{other, timer, stays, timer-affects, stays_facts}
use Rattle.dnssec_run.proofs.Chain.Facts.{stays_start}
use Rattle.dnssec_run.proofs.WholeRolls.Armed.{Armed, Besides, Goes, NoneLater, Reads, armed-beside}
use Rattle.dnssec_run.proofs.WholeRolls.Armed.{armed-between, armed-report, beside-silent, is_zds}
use Rattle.dnssec_run.proofs.WholeRolls.Armed.{reads-beside, reads-waited, zds, zds_facts}
use Rattle.dnssec_run.proofs.WholeRolls.Keys.{Expiring, Idle, dates, expiring-at, fits_of, in_order}
use Rattle.dnssec_run.proofs.WholeRolls.Keys.{roll_now}
use Rattle.dnssec_run.proofs.WholeRolls.OrderedKeys.{Order, in-order-at, in-order-idle}
use Rattle.dnssec_run.proofs.Chain.{Kinds.same_list, OneKey.may_there, OneKey.suits}
use Rattle.dnssec_run.proofs.Chain.{Rolls.same-same, Rolls.clash, Tables.want_on, Tale.start-parts}
use Rattle.dnssec_run.proofs.{Chain.Trust.moment, Chain.Trust.mark, WholeRolls.Order.alike-call}
use Rattle.dnssec_run.proofs.WholeRolls.{Order.is_calm, Replies.runs-beside, Replies.world_of}
use Rattle.dnssec_zone.specs.Wait as waits
use Rattle.dnssec_keyset.specs.Step as keyset

-- ---- positions

-- the mark of no accepted report of this half of the roll
abbrev pub IsNone : RollType → Half → Mark → Type 0
IsNone roll half mark = (ttl : ℕ) → mark ≢ Report roll (is_second half) ttl

module _ (entries : List Entry) where
  abbrev pub Arms : (set : KeySetParts) → ℕ → RollType → Half → Type 0
  Arms set n r half = (from : LastReport entries r (counts_from r half) n)
      × Armed r half from.moment set

  abbrev pub Says : ℕ → RollType → Half → ℕ → Type 0
  Says n r half ttl = (last : LastReport entries r half n) × (last.ttl ≡ ttl)

  -- what the record and the set say of a roll in a phase
  abbrev pub Data : (set : KeySetParts) → ℕ → RollType → RollState → Type 0
  Data set n r Propagation1 = Reads r First set
  Data set n r (CacheExpire1 ttl) = Arms set n r First × Says n r First ttl
      × (is_zds r ≡ true → Arms set n r Second)
  Data set n r Propagation2 = Reads r Second set × (is_zds r ≡ true → Arms set n r Second)
  Data set n r (CacheExpire2 ttl) = Arms set n r Second × Says n r Second ttl
  Data set n r Done = Unit {0}

  -- one more position that is no report of this half
  abbrev last_on : (r : RollType) (half : Half) (n : ℕ)
      → IsNone r half (position_at entries (suc n)).mark
      → LastReport entries r half n → LastReport entries r half (suc n)
  last_on r half n none t = record {
    at = t.at;
    ttl = t.ttl;
    moment = t.moment;
    within = omega (arith, t.within);
    mark = t.mark;
    moment_is = t.moment_is;
    last = λ m ttl lt le. elim (cases_lt m (suc n)) [
      | inl less ↦ t.last m ttl lt (omega arith)
      | inr ge ↦ let here : suc n ≡ m = omega arith in
          subst (λ m. IsNone r half (position_at entries m).mark) here none ttl
    ];
  }

  abbrev last_here : (r : RollType) (half : Half) (n ttl now : ℕ)
      → (position_at entries n).mark ≡ Report r (is_second half) ttl
      → (position_at entries n).moment ≡ Some now → LastReport entries r half n
  last_here r half n ttl now mark moment = record {
    at = n;
    ttl = ttl;
    moment = now;
    within = omega arith;
    mark = mark;
    moment_is = moment;
    last = λ m ttl lt le. absurd (omega arith);
  }

  -- a call that is no report of the roll
  module _ (n : ℕ) (old new : KeySetParts) (r : RollType) (b : Besides r old new)
      (none : (s : Half) → IsNone r s (position_at entries (suc n)).mark) where
    arms-on : (half : Half) → Arms old n r half → Arms new (suc n) r half
    arms-on half a = (
      last_on r (counts_from r half) n (none (counts_from r half)) a.0,
      armed-beside r half old new b a.0.moment a.1,
    )

    says-on : (half : Half) (ttl : ℕ) → Says n r half ttl → Says (suc n) r half ttl
    says-on half ttl t = (last_on r half n (none half) t.0, t.1)

    pub data-beside : (p : RollState) → Data old n r p → Data new (suc n) r p
    data-beside Propagation1 d = reads-beside r First old new b d
    data-beside (CacheExpire1 ttl) d =
        (arms-on First d.0, says-on First ttl d.1, λ z. arms-on Second (d.2 z))
    data-beside Propagation2 d = (reads-beside r Second old new b d.0, λ z. arms-on Second (d.1 z))
    data-beside (CacheExpire2 ttl) d = (arms-on Second d.0, says-on Second ttl d.1)
    data-beside Done d = tt

  -- the roll's own calls
  module _ (n : ℕ) (old new : KeySetParts) where
    -- a report
    data-report : (r : RollType) (half : Half) (ttl now : ℕ)
        → Goes old new (after_report r half now) → NoneLater now new
        → (position_at entries (suc n)).mark ≡ Report r (is_second half) ttl
        → (position_at entries (suc n)).moment ≡ Some now → Data old n r (propagation half)
        → Data new (suc n) r (cache_expire half ttl)
    data-report ZskDoubleSignatureRoll First ttl now keys late mark moment d =
        let here = last_here zds First (suc n) ttl now mark moment in
        let first = armed-report zds First First now old new
        (λ k h. ((stays_facts zds First k h).write refl, h)) keys late d in
        let second = armed-report zds First Second now old new
        (λ k h. (((zds_facts k).0 h).0, h)) keys late d in
        ((here, first), (here, refl), λ z. (here, second))
    data-report ZskDoubleSignatureRoll Second ttl now keys late mark moment d =
        let a = d.1 refl in
        let last = last_on zds First n (λ ttl e. let other = sym mark ∙ e in cc) a.0 in
        let second = armed-beside zds Second old new (beside-silent now old new keys) a.0.moment
        a.1 in
        ((last, second), (last_here zds Second (suc n) ttl now mark moment, refl))
    data-report r First ttl now keys late mark moment d =
        let here = last_here r First (suc n) ttl now mark moment in
        let first = armed-report r First First now old new
        (λ k h. ((stays_facts r First k h).write refl, h)) keys late d in
        ((here, first), (here, refl), λ z. absurd (true≢false (sym z)))
    data-report r Second ttl now keys late mark moment d =
        let here = last_here r Second (suc n) ttl now mark moment in
        let second = armed-report r Second Second now old new
        (λ k h. ((stays_facts r Second k h).write refl, h)) keys late d.0 in
        ((here, second), (here, refl))

    -- a wait
    data-wait : (r : RollType) (half : Half) (ttl now : ℕ) → Goes old new (after_wait r half now)
        → ((s : Half) → IsNone r s (position_at entries (suc n)).mark)
        → ((q : List ℕ) (k : KeyParts) → get old.keys q ≡ Some k
        → in_order (timer r) (Expiring half r) k ≡ true)
        → Data old n r (cache_expire half ttl) → Data new (suc n) r (after_expiry half)
    data-wait ZskDoubleSignatureRoll First ttl now keys none fit d = (
      reads-waited zds now old new keys fit d.0.1.key,
      λ z. let a = d.2 refl in
          (last_on zds First n (none First) a.0, armed-between now a.0.moment old new keys a.1),
    )
    data-wait r First ttl now keys none fit d =
        (reads-waited r now old new keys fit d.0.1.key, λ z. absurd (true≢false (sym z)))
    data-wait r Second ttl now keys none fit d = tt

-- ---- the run

module _ (entries : List Entry) (n : ℕ) (old new : KeySetParts) (h : (sd : SideOf) → Order sd old)
    (all : RollsTogether old.rolls) where
  -- a call that isn't on the roll is no report of it
  unreported : (c : keyset.Call) (r : RollType) → is_on c r ≡ false → (s : Half)
      → IsNone r s (mark c)
  unreported c r aside s ttl e = grind (arith, same-same)

  -- the keys that a start leaves to go on with
  started : (r : RollType) (olds news : List (List ℕ)) (now : ℕ)
      → keyset.clearance old (keyset.StartRoll r olds news now) ≡ waits.Clear
      → Changes old (keyset.StartRoll r olds news now) new → Reads r First new
  started r olds news now v m =
      let can = can_start (world_of old) r olds news (no_cause _ v) in
      let s = can.suitable (timer r) (timer-affects r) in
      let o = is_listed olds s.0 in
      let i = is_listed news s.0 in
      let fit = in-order-idle (timer r) old (h (timer r)) s.0 s.1 s.2
      (λ q e. can.alone q (clash (timer r) r q (timer-affects r) e)) in (
        s.0,
        after_start r now o i s.1,
        m.keys s.0 ∙ ap (option_map _) s.2,
        ap (λ (k : KeyParts). stays r First k.keytype) (start-parts r now o i s.1)
            ∙ stays_start r o i s.1.keytype (may_there r _ olds news can s.0 s.1 s.2)
            (fits_of (timer r) Idle s.1.keytype (dates s.1) fit)
            (suits o i (serves_as_new (want_on (timer r) r) s.1.keytype)
            (serves_as_kept (want_on (timer r) r) s.1.keytype) s.3),
      )

  -- the roll that the call is on
  own : (c : keyset.Call) → keyset.clearance old c ≡ waits.Clear → Changes old c new
      → (position_at entries (suc n)).mark ≡ mark c
      → (position_at entries (suc n)).moment ≡ moment c
      → ((now : ℕ) → moment c ≡ Some now → NoneLater now new)
      → ((r : RollType) (p : RollState) → roll_now old r ≡ Some p → Data entries old n r p)
      → Own (Data entries new (suc n)) c
  own (keyset.StartRoll r olds news now) v m mk mo late was = started r olds news now v m
  own (keyset.Report r half ttl now) v m mk mo late was =
      data-report entries n old new r half ttl now m.keys (late now refl) mk mo
      (was r (propagation half) (spreads half _ (no_cause _ v)))
  own (keyset.Wait r half now) v m mk mo late was =
      let w = waits_in_phase r half now (world_of old) v in
      data-wait entries n old new r half w.0 now m.keys
      (λ s. subst (IsNone r s) (sym mk) (λ ttl e. grind arith))
      (λ q k at. in-order-at (timer r) old (h (timer r)) q k at r (cache_expire half w.0)
      (Expiring half r) (expiring-at r half w.0) (timer-affects r) w.1)
      (was r (cache_expire half w.0) w.1)
  own _ v m mk mo late was = tt

  pub data-step : (c : keyset.Call) → is_calm old c ≡ true → keyset.clearance old c ≡ waits.Clear
      → Changes old c new → LeavesOthers old c new → (position_at entries (suc n)).mark ≡ mark c
      → (position_at entries (suc n)).moment ≡ moment c
      → ((now : ℕ) → moment c ≡ Some now → NoneLater now new)
      → ((r : RollType) (p : RollState) → roll_now old r ≡ Some p → Data entries old n r p)
      → (r : RollType) (p : RollState) → roll_now new r ≡ Some p → Data entries new (suc n) r p
  data-step c plain v m leaves mk mo late was =
      by-phase old new (Data entries new (suc n)) c m (own c v m mk mo late was)
      (λ r p aside there. data-beside entries n old new r
      (alike-call old new (lists_kind (side_of r)) (same_list r) c plain v m leaves
      (λ x on k l. other x r k (runs-beside old r p there all c v aside x on) l))
      (λ s. subst (IsNone r s) (sym mk) (unreported c r aside s)) p (was r p there))
