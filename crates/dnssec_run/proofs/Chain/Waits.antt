-- A wait keeps the invariant of both sides.
use Rattle.dnssec_key.specs.declared.roll.Half.{Half}
use Rattle.dnssec_key.specs.declared.roll.Half.TheVariants.{First, Second}
use Rattle.dnssec_key.specs.RollTable.{after_wait, after_expiry, cache_expire}
use Rattle.dnssec_key.specs.RollTable.{half_of}
use Rattle.dnssec_key.specs.declared.roll.RollType.{RollType, TheVariants.AlgorithmRoll}
use Rattle.dnssec_key.specs.declared.kind.KeyType.{KeyType}
use Rattle.dnssec_run.proofs.Chain.BothSides.{Leaving, Turn, at_from, away, by_life, lacks-on, only}
use Rattle.dnssec_run.proofs.Chain.BothSides.{settled, stage_by, Inv, never-dead, ds_less, moved-to}
use Rattle.dnssec_run.proofs.Chain.BothSides.{turned, lives}
use Rattle.dnssec_run.proofs.Chain.Rolls.{same-sym, stage_in, same-same}
use Rattle.dnssec_run.proofs.Chain.Steps.{NewAt, at-wait1, lasts-wait1, at-wait2, lasts-wait2}
use Rattle.dnssec_run.proofs.Chain.RollFacts.{waited_ds, both_retires, early-late, early-same}
use Rattle.dnssec_run.proofs.Chain.RollFacts.{switch_timed, timed_first}
use Rattle.dnssec_run.proofs.Chain.Tale.{Passes, key_at, Tale}
use Rattle.dnssec_run.proofs.Chain.Flags.{in_use, live, remains, kind_on, second_set, switches}
use Rattle.dnssec_run.proofs.Chain.Facts.{stays, timer, timer-affects}
use Rattle.dnssec_run.proofs.Chain.Keeping.{BeforeFirst, before_first, before_second, engaged}
use Rattle.dnssec_run.proofs.Chain.Keeping.{reads-engaged, zone-stays}
use Rattle.dnssec_run.proofs.Chain.History.{Serving, Without, base_here}
use Rattle.dnssec_run.proofs.Chain.Places.{Fits, NoDs, shown_at, some_of}
use Rattle.dnssec_run.proofs.Chain.Invariant.{At, HasNo, Lasts, Left}
use Rattle.dnssec_run.proofs.Chain.OneKey.{Waits, wait_mark, of_found, goes, came}
use Rattle.dnssec_run.proofs.Chain.Phases.{PhaseOf, Reads, reads_of, gone, reads-wait1}
use Rattle.dnssec_run.proofs.Chain.Life.{Comes, PassesAt, Unpassed, without-engaged}
use Rattle.dnssec_run.proofs.Chain.{Tables.by_side, Side.upto}
use Rattle.dnssec_run.specs.Published.{Id, in_ds}
use Rattle.dnssec_run.specs.Safe.{Ds, is_step, IsGone}
use Rattle.dnssec_zone.proofs.Flags.{Quiet, SideOf, Keys, Zone, affects, Early, Late, flags_fit}
use Rattle.dnssec_zone.specs.Rolls.{same_roll}
use Rattle.std.proofs.Common.{Some, ◌≡◌, ℕ, suc, ◌≤◌, inl, inr, Bool, true, false, refl, sym, ◌∙◌}
use Rattle.std.proofs.Common.{ap, subst, arith, length}
use Rattle.std.proofs.lemmas.Bool.{true≢false, cases_lt}

module _ (tale : Tale) (n : ℕ) (here : suc n ≤ length tale.es) (r : RollType) where
  -- ---- either wait

  phase-then : (half : Half) (w : Waits tale n half r) (h : Inv tale n)
      → ((sd : SideOf) → affects sd r ≡ true → At tale sd (stage_in r (cache_expire half w.ttl)) n)
      → PhaseOf tale r (after_expiry half) (suc n)
  phase-then First w h sides = reads-wait1 tale n r w (sides (timer r) (timer-affects r)).flags
      (reads_of (h.phases r (cache_expire First w.ttl) w.phase))
  phase-then Second w h sides = tt

  steps : (half : Half) (q : RollType) → same_roll r q ≡ false
      → is_step q (wait_mark half r) ≡ false
  steps First q d = same-sym q r ∙ d
  steps Second q d = refl

  turn : (half : Half) (w : Waits tale n half r) (h : Inv tale n)
      → Turn tale n h r (stage_in r (cache_expire half w.ttl)) (stage_in r (after_expiry half))
  turn half w h = record {
    here = here;
    f = λ q. after_wait r half w.now;
    o = Some (after_expiry half);
    mapped = w.mapped;
    beside = λ q x. h.pairs r q (cache_expire half w.ttl) x w.phase;
    no_step = λ q d. ap (is_step q) w.mark ∙ steps half q d;
    lists = λ sd out. w.lists sd;
    stage = stage_by h r (cache_expire half w.ttl) w.phase;
    this = phase-then half w h;
  }

  -- a family of which no key was in a set on the side of keys
  lacks_then : (half : Half) (w : Waits tale n half r) (h : Inv tale n)
      → (affects Keys r ≡ true → (id : Id) → Passes tale engaged (suc n) id
      → Passes tale engaged n id) → HasNo tale engaged n → HasNo tale engaged (suc n)
  lacks_then half w h was lacks = lacks-on (turn half w h)
      (λ out. ds_less tale n here w.mapped (λ q k. waited_ds r half out k.keytype))
      (λ own id o e. lacks id o (was own id e)) lacks

  -- ---- the first

  module _ (w : Waits tale n First r) (h : Inv tale n) where
    abbrev t1 : Turn tale n h r (Early r) (Late r)
    t1 = turn First w h

    side1 : ((sd : SideOf) → affects sd r ≡ true → switches sd r ≡ true → NoDs tale n
        → NewAt tale sd r n) → (sd : SideOf) → affects sd r ≡ true → At tale sd (Late r) (suc n)
    side1 new sd own =
        at-wait1 tale n here sd r own (only t1 sd own) w (at_from t1 sd own)
        (gone tale n First r w (timed_first r) (h.phases r (cache_expire First w.ttl) w.phase))
        (new sd own)

    lasts1 : (sd : SideOf) → affects sd r ≡ true → Left tale sd (Early r) n
        → Lasts tale sd (Late r) (suc n)
    lasts1 sd own = lasts-wait1 tale n here sd r own (only t1 sd own) w (at_from t1 sd own)

    -- a key after the wait was one that passes before it
    was_key : (p q : KeyType → Bool) → affects Keys r ≡ true
        → ((k : KeyType) → BeforeFirst r k → p ((half_of r First).moves k) ≡ true → q k ≡ true)
        → (id : Id) → Passes tale p (suc n) id → Passes tale q n id
    was_key p q own was id = came w.mapped id q p (λ k e. was k.keytype
        (before_first r k.keytype own (of_found (flags_fit Keys (Early r)) _ k e
        ((at_from t1 Keys own).flags id))))

    -- the family leaves: from now on no DS set has a key of it
    leaves1 : Leaving h (Early r) → Inv tale (suc n)
    leaves1 (own, zone, mixed, z, l) =
        let dead = never-dead tale n (omega arith) l.2 in
        let bare : Without tale (suc n) = λ id o c. l.3 id o
        (was_key in_ds (remains Keys r) own (λ k f e. f.ds zone e) id
        (((shown_at tale (suc n) here).ds id).0 c)) in
        turned t1 (λ _ _. dead) (side1 (λ sd own on d. inl (dead d))) (inr (inl (record {
          roll = r;
          keys_own = own;
          zone_own = zone;
          mixed = mixed;
          zone = elim (l.4) [
            | inl left ↦ (lasts1 Zone zone left).0
            | inr first ↦ (
              z.0,
              goes w.mapped z.0 (in_use Zone) (in_use Zone) (λ k a e. ap
                  (λ r. in_use Zone ((half_of r First).moves k.keytype)) first
                  ∙ zone-stays k.keytype e) z.1,
              z.2,
            )
          ];
          stage = inr (
            moved-to t1 Keys own,
            moved-to t1 Zone zone,
            λ id o e. l.3 id o (was_key (live Keys) (remains Keys r) own (λ k f. f.lives) id e),
            (
              suc n,
              (omega arith, base_here tale.es r (suc n) (ap (is_step r) w.mark ∙ same-same r)),
              λ q ge le. let e : suc n ≡ q = omega arith in subst (Without tale) e bare,
            ),
          );
        })))

    -- an algorithm roll brings it in
    comes1 : NoDs tale n → AlgorithmRoll ≡ r → Comes tale h.ks h.zs n → Inv tale (suc n)
    comes1 d first c =
        let lk = lasts1 Keys (own Keys) (subst (λ r. Left tale Keys (Early r) n) first c.2) in
        let lz = lasts1 Zone (own Zone) (subst (λ r. Left tale Zone (Early r) n) first c.3) in
        turned t1 (λ sd out. absurd (true≢false (sym (own sd) ∙ out))) (side1 new)
        (inl (settled t1 Keys (own Keys) lk, settled t1 Zone (own Zone) lz))
      where
        own : (sd : SideOf) → affects sd r ≡ true
        own sd = ap (affects sd) (sym first) ∙ by_side (λ sd. affects sd AlgorithmRoll ≡ true)
            refl refl sd

        new : (sd : SideOf) → affects sd r ≡ true → switches sd r ≡ true → NoDs tale n
            → NewAt tale sd r n
        new Keys own on d = inr (
          subst (λ r. Left tale Keys (Early r) n) first c.2,
          subst (λ r. (id : Id) (q : ℕ) → q ≤ n
              → (IsGone tale.es (kind_on Keys (second_set r)) q n → ⊥)
              → Serving tale Keys (second_set r) q id) first (λ id q le un. inl (d q le un)),
        )
        new Zone own on d = absurd (true≢false (sym on ∙ ap (switches Zone) (sym first)))

    -- it isn't there, and stays away
    absent1 : (PassesAt tale n → r ≡ AlgorithmRoll) → NoDs tale n
        → (tale.whole ≡ true → Unpassed tale n) → HasNo tale engaged n → Inv tale (suc n)
    absent1 only d passed lacks =
        let lacks' = lacks_then First w h
        (λ own. was_key engaged engaged own (λ k f. f.engages)) lacks in
        away t1 not_first d passed lacks' (λ d'. side1 (λ _ _ _ _. inl d'))
      where
        -- an algorithm roll reads a key that is in a set on the side of keys
        not_first : tale.whole ≡ true → PassesAt tale n → ⊥
        not_first all s =
            let first = only s in
            let t = subst (λ r. Reads tale r First n) first
            (reads_of (h.phases r (cache_expire First w.ttl) w.phase)) in
            lacks t.0 (tale.all all t.0)
            (some_of (flags_fit Keys (Early AlgorithmRoll)) (stays AlgorithmRoll First) engaged
            reads-engaged (key_at tale n t.0)
            (subst (λ r. Fits tale (flags_fit Keys (Early r)) n t.0) first
            ((at_from t1 Keys (ap (affects Keys) first)).flags t.0)) t.1)

  pub wait1 : (w : Waits tale n First r) → Inv tale n → (PassesAt tale n → r ≡ AlgorithmRoll)
      → Inv tale (suc n)
  wait1 w h only = by_life (t1 w h)
      (λ k z. lives (t1 w h) k z (side1 w h (λ sd own on d. inl (never-dead tale n (omega arith)
      k.0 d))) (λ sd own a. lasts1 w h sd own a.1))
      (leaves1 w h) (absent1 w h only)
      (λ d passed e. comes1 w h d (early-same AlgorithmRoll r e))

  -- ---- the second

  module _ (w : Waits tale n Second r) (h : Inv tale n) where
    abbrev t2 : Turn tale n h r (Late r) Quiet
    t2 = turn Second w h

    side2 : (sd : SideOf) → affects sd r ≡ true → At tale sd Quiet (suc n)
    side2 sd own =
        at-wait2 tale n here sd r own (only t2 sd own) w (at_from t2 sd own)
        (λ on. gone tale n Second r w (switch_timed sd r own on)
        (h.phases r (cache_expire Second w.ttl) w.phase))

    -- a key in a set on the side of keys was there before, and stays
    was_engaged : (p : KeyType → Bool)
        → ((k : KeyType) → (engaged k ≡ true) × (live Keys k ≡ true) → p k ≡ true)
        → affects Keys r ≡ true → (id : Id) → Passes tale engaged (suc n) id → Passes tale p n id
    was_engaged p was own id = came w.mapped id p engaged (λ k a x. was k.keytype
        (before_second r k.keytype own (of_found (flags_fit Keys (Late r)) _ k a
        ((at_from t2 Keys own).flags id)) x))

    -- the family has left: the second report has retired the DS sets that had it
    leaves2 : Leaving h (Late r) → Inv tale (suc n)
    leaves2 (own, zone, mixed, z, l) =
        let lacks : HasNo tale engaged (suc n) =
        λ id o e. l.2 id o (was_engaged (live Keys) (λ k x. x.1) own id e) in
        let out = gone tale n Second r w (switch_timed Keys r own refl)
        (h.phases r (cache_expire Second w.ttl) w.phase) Ds (both_retires r own zone) l.3.0
        l.3.1.1 in
        let d = upto (λ q. (IsGone tale.es Ds q (suc n) → ⊥) → Without tale q) n
        (λ q le un. elim (cases_lt q l.3.0) [
          | inl lt ↦ absurd (un (out q lt))
          | inr ge ↦ l.3.2 q ge le
        ])
        (λ _. without-engaged tale n here lacks) in
        turned t2 (λ _ _ _. d) side2
        (inr (inr (d, (λ all. absurd (true≢false (sym all ∙ mixed))), inl lacks)))

  pub wait2 : (w : Waits tale n Second r) → Inv tale n → (PassesAt tale n → ⊥) → Inv tale (suc n)
  wait2 w h none = by_life (t2 w h)
      (λ k z. lives (t2 w h) k z (side2 w h) (λ sd own a. lasts-wait2 tale n here sd r own
      (only (t2 w h) sd own) w (at_from (t2 w h) sd own) a.1))
      (leaves2 w h)
      (λ d passed lacks. away (t2 w h) (λ _. none) d passed
      (lacks_then Second w h (was_engaged w h engaged (λ k x. x.0)) lacks) (λ _. side2 w h))
      (λ d passed e c. absurd (early-late AlgorithmRoll r e))
