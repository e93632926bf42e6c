-- A start keeps the invariant of both sides.
use Rattle.dnssec_run.proofs.Chain.BothSides.{Turn, at_from, at_on, away, by_life, lacks-on}
use Rattle.dnssec_run.proofs.Chain.BothSides.{lasting, moved-to, only, side_after, stage_on, turned}
use Rattle.dnssec_run.proofs.Chain.BothSides.{Inv, never-dead, ds_less}
use Rattle.dnssec_run.proofs.Chain.Rolls.{same-sym, StageFits, stage_quiet, clash}
use Rattle.dnssec_run.proofs.Chain.Tale.{start_key, key_at, Tale}
use Rattle.dnssec_run.proofs.Chain.Invariant.{At, Alive, HasNo, Lasts, Left}
use Rattle.dnssec_run.proofs.Chain.Life.{Goes, Law, PassesAt, Unpassed, lasts-keeps, unpassed-next}
use Rattle.dnssec_run.proofs.{Chain.RollFacts.still_ds, Chain.RollFacts.zone_free, Premise.DoesAt}
use Rattle.dnssec_run.proofs.{Premise.start_of, Chain.Facts.timer, Chain.Facts.timer-affects}
use Rattle.dnssec_run.proofs.Chain.{Keeping.engaged, Places.Fits, Places.NoDs, EarlyEnds.is_tied}
use Rattle.dnssec_run.proofs.Chain.{EarlyEnds.fits-tied, Same.ok-map, OneKey.Starts, Steps.at-start}
use Rattle.dnssec_run.proofs.Chain.{Steps.alive-start, Phases.reads-start}
use Rattle.dnssec_run.specs.{Published.Id, Safe.is_step, Plain.needs_algorithm_roll}
use Rattle.std.proofs.lemmas.Bool.{cases_Bool, true≢false, true_from_ne_false}
use Rattle.std.proofs.lemmas.Option.{none-some}
use Rattle.std.proofs.Common.{◌≡◌, ℕ, suc, ◌≤◌, ◌⊎◌, inl, inr, true, false, sym, ◌∙◌, ap, subst}
use Rattle.std.proofs.Common.{arith, length, Some}
use Rattle.dnssec_key.specs.declared.roll.{RollType.RollType, RollState.TheVariants.Propagation1}
use Rattle.dnssec_zone.proofs.Flags.{SideOf, Keys, Zone, affects, Quiet, Early, flags_fit}
use Rattle.dnssec_zone.specs.Start.{together, is_listed}

module _ (tale : Tale) (n : ℕ) (here : suc n ≤ length tale.es) (r : RollType) (s : Starts tale n r)
    (h : Inv tale n) where
  turn : Turn tale n h r Quiet (Early r)
  turn = record {
    here = here;
    f = start_key r s.now s.old s.new;
    o = Some Propagation1;
    mapped = s.mapped;
    beside = λ q x e d.
        true_from_ne_false (together r q) (λ f. none-some x (sym (s.can.alone q f) ∙ e));
    no_step = λ q d. ap (is_step q) s.mark ∙ same-sym q r ∙ d;
    lists = s.lists;
    stage = λ sd own. stage_quiet sd (stage_on h sd) (at_on h sd).own (λ q e.
        subst (StageFits (stage_on h sd) q) (s.can.alone q (clash sd r q own e))
        ((at_on h sd).rolls q e));
    this = λ sides. reads-start tale n r s (sides (timer r) (timer-affects r)).flags;
  }

  module _ (goes : Goes tale n r) (none : PassesAt tale n → ⊥) where
    ties : (id : Id) → Fits tale is_tied n id
    ties id = ok-map (flags_fit Zone h.zs) is_tied (fits-tied h.zs) (key_at tale n id)
        (h.zone.flags id)

    side : (sd : SideOf) → (NoDs tale (suc n) ⊎ Alive tale sd n) → affects sd r ≡ true
        → At tale sd (Early r) (suc n)
    side sd life own = at-start tale n here sd r own (only turn sd own) s ties
        (at_from turn sd own) life

    goes_on : (sd : SideOf) → Alive tale sd n → affects sd r ≡ true → Alive tale sd (suc n)
    goes_on sd a own = alive-start tale n here sd r own (only turn sd own) s ties
        (at_from turn sd own) a

    -- the family was there
    alive : Lasts tale Keys h.ks n → Lasts tale Zone h.zs n → Inv tale (suc n)
    alive k z = elim (cases_Bool (affects Keys r)) [
      | inl own ↦ elim (goes.keys own k.0) [
        | inl left ↦ on (λ _. left)
        | inr fades ↦ turned turn (λ _ _. dead) sides (inr (inl (record {
          roll = r;
          keys_own = own;
          zone_own = fades.0;
          mixed = fades.1;
          zone = goes_on Zone z.0 fades.0;
          stage = inl (
            moved-to turn Keys own,
            moved-to turn Zone fades.0,
            goes_on Keys k.0 own,
            fades.2,
            fades.3,
          );
        })))
      ]
      | inr out ↦ on (λ own. absurd (true≢false (sym own ∙ out)))
    ]
      where
        dead : NoDs tale n → NoDs tale (suc n)
        dead = never-dead tale n (omega arith) k.0

        sides : (sd : SideOf) → affects sd r ≡ true → At tale sd (Early r) (suc n)
        sides Keys = side Keys (inr k.0)
        sides Zone = side Zone (inr z.0)

        on : (affects Keys r ≡ true → Left tale Keys (Early r) (suc n)) → Inv tale (suc n)
        on left =
            let keys = lasting turn Keys dead k (λ own a. (goes_on Keys a.0 own, left own)) in
            turned turn (λ _ _. dead) sides (inl (
              keys,
              lasting turn Zone dead z (λ own a. (
                goes_on Zone a.0 own,
                goes.zone own (lasts-keeps tale _ (suc n)
                    (side_after turn (λ _ _. dead) sides Keys) keys),
              )),
            ))

    -- the family wasn't there
    absent : NoDs tale n → (tale.whole ≡ true → Unpassed tale n) → HasNo tale engaged n
        → Inv tale (suc n)
    absent d passed lacks = elim (cases_Bool (affects Keys r)) [
      | inl own ↦ elim (goes.absent own passed lacks) [
        | inl lacks' ↦ away turn (λ _. none) d passed lacks' sides
        | inr c ↦ let d' = still (ap needs_algorithm_roll c.0) in
            turned turn (λ _ _ _. d') (sides d') (inr (inr (
              d',
              (λ w. unpassed-next tale n none (passed w)),
              inr (
                moved-to turn Keys own ∙ ap Early c.0,
                moved-to turn Zone (ap (affects Zone) c.0) ∙ ap Early c.0,
                subst (λ r. Left tale Keys (Early r) (suc n)) c.0 c.1,
                subst (λ r. Left tale Zone (Early r) (suc n)) c.0 c.2,
              ),
            )))
      ]
      | inr out ↦ away turn (λ _. none) d passed (lacks-on turn
          (λ _ _. still (zone_free r out)) (λ own. absurd (true≢false (sym own ∙ out))) lacks) sides
    ]
      where
        sides : NoDs tale (suc n) → (sd : SideOf) → affects sd r ≡ true
            → At tale sd (Early r) (suc n)
        sides d' sd = side sd (inl d')

        still : needs_algorithm_roll r ≡ false → NoDs tale (suc n)
        still free = ds_less tale n here s.mapped
            (λ q k. still_ds r free (is_listed s.old q) (is_listed s.new q) k.keytype) d

    by_family : Inv tale (suc n)
    by_family = by_life turn alive (λ l. absurd l) absent (λ d passed e c. absurd (cc))

pub start : (tale : Tale) (n : ℕ) → suc n ≤ length tale.es → (r : RollType) → Starts tale n r
    → Law tale → DoesAt start_of tale.calls tale.es n r → (PassesAt tale n → ⊥) → Inv tale n
    → Inv tale (suc n)
start tale n here r s law starts none h = by_family tale n here r s h
    (law n here r s starts (λ sd own. (at_from (turn tale n here r s h) sd own).flags)) none
