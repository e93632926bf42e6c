-- What a start makes of a family of keys: of all keys, by what it has to leave; of those of one
-- algorithm, if it keeps the sets whole.
use Rattle.std.proofs.lemmas.Bool.{cases_Bool, true≢false, and_from, and_parts, eqb-true, eq-eqb}
use Rattle.std.proofs.Common.{◌≡◌, ℕ, suc, ◌≤◌, ◌⊎◌, inl, inr, Bool, true, false, ◌&&◌, refl, sym}
use Rattle.std.proofs.Common.{◌∙◌, ap, arith, List, length, Some, not}
use Rattle.std.specs.Prelude.{nat_eq}
use Rattle.dnssec_key.specs.declared.roll.RollType.{RollType, TheVariants.AlgorithmRoll}
use Rattle.dnssec_key.specs.declared.kind.KeyType.{KeyType}
use Rattle.dnssec_zone.specs.{Keys.some_key, Start.may_change_algorithms, Start.is_listed}
use Rattle.dnssec_zone.proofs.Quantified.{some_key-found, some_key-none}
use Rattle.dnssec_zone.proofs.Tests.{or_second}
use Rattle.dnssec_zone.proofs.Flags.{SideOf, Keys, Zone, affects, Quiet, Early, flags_fit}
use Rattle.dnssec_run.specs.ByAlgorithm.{KeepsWhole, HasKeyOf, keeps_ksk, keeps_zsk, algorithm_at}
use Rattle.dnssec_run.specs.ByAlgorithm.{algorithm_of}
use Rattle.dnssec_run.specs.{Plain.needs_algorithm_roll, Published.Id}
use Rattle.dnssec_run.proofs.Premise.{DoesAt, start_of, start-made}
use Rattle.dnssec_run.proofs.Chain.Tale.{key_at, Passes, Tale, Key, if_some, world_at}
use Rattle.dnssec_run.proofs.Chain.Flags.{in_use, remains, start_facts}
use Rattle.dnssec_run.proofs.Chain.Keeping.{AtStart, at_start, before_first, engaged, zone-remains}
use Rattle.dnssec_run.proofs.Chain.Keeping.{rest-engaged}
use Rattle.dnssec_run.proofs.Chain.Places.{Fits, found_key, found_now, real, some_key as a_key}
use Rattle.dnssec_run.proofs.Chain.Places.{some_of}
use Rattle.dnssec_run.proofs.Chain.Invariant.{Alive, Has, HasNo, Left}
use Rattle.dnssec_run.proofs.Chain.OneKey.{Starts, kind_then, may_found, of_found, suits, goes}
use Rattle.dnssec_run.proofs.Chain.OneKey.{now-one, turns, was-one}
use Rattle.dnssec_run.proofs.Chain.{RollFacts.only_first, Life.Fades, Life.Goes}
use Rattle.dnssec_run.proofs.Chain.Algorithms.{has-algorithm}

-- ---- all keys

module _ (tale : Tale) (whole : tale.whole ≡ true) (n : ℕ) (here : suc n ≤ length tale.es)
    (r : RollType) (s : Starts tale n r) (starts : DoesAt start_of tale.calls tale.es n r)
    (flags : (sd : SideOf) → affects sd r ≡ true → (id : Id)
    → Fits tale (flags_fit sd Quiet) n id) where
  -- the suitable key stays
  suitable-left : (sd : SideOf) → affects sd r ≡ true → Left tale sd (Early r) (suc n)
  suitable-left sd own =
      let k = s.can.suitable sd own in
      let id : Id = (k.0, (world_at tale n).added k.0) in
      let at_key : key_at tale n id ≡ Some k.1 = found_now (world_at tale n) k.0 ∙ k.2 in (
        id,
        now-one s.mapped id (remains sd r) k.1 at_key ((start_facts sd r (is_listed s.old k.0)
            (is_listed s.new k.0) k.1.keytype own (may_found s id k.1 at_key)
            (of_found (flags_fit sd Quiet) _ k.1 at_key (flags sd own id))).some
            (suits _ _ _ _ k.3)),
        tale.all whole id,
      )

  pub whole-law : Goes tale n r
  whole-law = record {
    keys = λ own a. inl (suitable-left Keys own);
    zone = λ own h. suitable-left Zone own;
    absent = λ own passed lacks. elim (cases_Bool (needs_algorithm_roll r)) [
      | inl w ↦ let x = tale.plain.first n r w starts in absurd (passed whole x.0 x.1 x.2)
      | inr w ↦ let first = only_first r own w in
          inr (first, suitable-left Keys own, suitable-left Zone (ap (affects Zone) first))
    ];
  }

-- ---- the keys of one algorithm

-- the family of an algorithm
abbrev pub of_algorithm : Tale → ℕ → Tale
of_algorithm tale a = record tale {
  of = λ id. nat_eq (algorithm_of tale.calls id) a;
  whole = false;
  all = λ w id. absurd (true≢false (sym w));
}

changes_first : (r : RollType) → may_change_algorithms r ≡ true → r ≡ AlgorithmRoll
changes_first r e = grind arith

module _ (all : Tale) (a : ℕ) where
  abbrev tale : Tale
  tale = of_algorithm all a

  -- a key of the family is a key of the algorithm
  of_has : (p : KeyType → Bool) (n : ℕ) → n ≤ length all.es → Has tale p n
      → HasKeyOf p a (real all n)
  of_has p n le h =
      let k = a_key p (key_at tale n h.0) h.1 in
      let at = found_key (world_at tale n) h.0 k.0 k.1 in (
        h.0.0,
        k.0,
        at.0,
        k.2,
        sym (has-algorithm all n le h.0.0 k.0 at.0) ∙ ap (algorithm_at all.calls) at.1
            ∙ eqb-true _ a h.2,
      )

  family_id : (n : ℕ) → n ≤ length all.es → (q : List ℕ) (k : Key)
      → (world_at tale n).key q ≡ Some k → k.algorithm ≡ a
      → tale.of (q, (world_at tale n).added q) ≡ true
  family_id n le q k at same = eq-eqb _ a (has-algorithm all n le q k at ∙ same)

  has_of : (p : KeyType → Bool) (n : ℕ) → n ≤ length all.es → HasKeyOf p a (real all n)
      → Has tale p n
  has_of p n le h = (
    (h.0, (world_at tale n).added h.0),
    ap (if_some p) (found_now (world_at tale n) h.0 ∙ h.2) ∙ h.3,
    family_id n le h.0 h.1 h.2 h.4,
  )

  decide : (p : KeyType → Bool) (n : ℕ) → n ≤ length all.es → Has tale p n ⊎ HasNo tale p n
  decide p n le =
      let test = λ (k : Key). p k.keytype && nat_eq k.algorithm a in
      elim (cases_Bool (some_key test (real all n).set.keys)) [
        | inl t ↦ let h = some_key-found test (real all n).set.keys t in
            let x = and_parts _ _ h.3 in
            inl (has_of p n le (h.0, h.1, h.2, x.0, eqb-true _ a x.1))
        | inr t ↦ inr (λ id o e.
            let h = of_has p n le (id, e, o) in
            true≢false (sym (and_from _ _ h.3 (eq-eqb _ a h.4))
            ∙ some_key-none test (real all n).set.keys h.0 h.1 t h.2))
      ]

  module _ (keeps : KeepsWhole all.name all.calls all.es) (n : ℕ) (here : suc n ≤ length all.es)
      (r : RollType) (s : Starts tale n r) (starts : DoesAt start_of all.calls all.es n r)
      (flags : (sd : SideOf) → affects sd r ≡ true → (id : Id)
      → Fits tale (flags_fit sd Quiet) n id) where
    -- what passes a test after it passes another that the flags give
    early : (sd : SideOf) → affects sd r ≡ true → (p q : KeyType → Bool)
        → ((k : KeyType) → flags_fit sd (Early r) k ≡ true → p k ≡ true → q k ≡ true) → (id : Id)
        → Passes tale p (suc n) id → Passes tale q (suc n) id
    early sd own p q on id = turns s.mapped id p q (λ k e. on _ (start_facts sd r _ _ k.keytype own
        (may_found s id k e) (of_found (flags_fit sd Quiet) _ k e (flags sd own id))).fit)

    -- what the tables say of a key
    facts : (id : Id) (k : Key) → key_at tale n id ≡ Some k
        → AtStart r (is_listed s.old id.0) (is_listed s.new id.0) k.keytype
    facts id k e =
        at_start r (is_listed s.old id.0) (is_listed s.new id.0) k.keytype (may_found s id k e)

    keys_left : affects Keys r ≡ true → Has tale keeps_ksk (suc n)
        → Left tale Keys (Early r) (suc n)
    keys_left own h = (
      h.0,
      early Keys own keeps_ksk (remains Keys r) (λ k f. (before_first r k own f).keeps) h.0 h.1,
      h.2,
    )

    zone_left : affects Zone r ≡ true → Has tale keeps_ksk (suc n)
        → Left tale Zone (Early r) (suc n)
    zone_left own h =
        let z = has_of keeps_zsk (suc n) here (keeps.both n a r
        (start-made all.calls all.es n r starts) (of_has keeps_ksk (suc n) here h)) in
        (z.0, early Zone own keeps_zsk (remains Zone r) (λ k. zone-remains r k own) z.0 z.1, z.2)

    -- if no KSK role stays, none remains
    none_remains : affects Keys r ≡ true → HasNo tale keeps_ksk (suc n)
        → HasNo tale (remains Keys r) (suc n)
    none_remains own lacks id o e = lacks id o
        (early Keys own (remains Keys r) keeps_ksk (λ k f. (before_first r k own f).kept) id e)

    -- a key in a set on the side of keys was in one, or stays
    away : affects Keys r ≡ true → HasNo tale engaged n → HasNo tale keeps_ksk (suc n)
        → HasNo tale engaged (suc n)
    away own lacks none id o e =
        let k = was-one s.mapped id engaged e in
        elim (cases_Bool (engaged k.0.keytype)) [
          | inl t ↦ lacks id o (ap (if_some engaged) k.1 ∙ t)
          | inr t ↦ none id o (now-one s.mapped id keeps_ksk k.0 k.1
              (or_second _ _ ((facts id k.0 k.1).engages own
              (of_found (flags_fit Keys Quiet) _ k.0 k.1 (flags Keys own id)) k.2) t))
        ]

    -- if all KSK roles get old, a new key takes over on the side of the zone
    takes_over : affects Keys r ≡ true → may_change_algorithms r ≡ false → Alive tale Keys n
        → HasNo tale keeps_ksk (suc n) → (affects Zone r ≡ true) × Left tale Zone (Early r) (suc n)
    unfolding of_has
    takes_over own free alive none =
        let k = of_has (in_use Keys) n (omega (arith, here)) alive in
        elim (cases_Bool (is_listed s.old k.0)) [
          | inl l ↦ let x = s.can.algorithms free k.0 k.1 k.2 l in
              new_key x.0 x.1 x.2 x.3 (x.4 ∙ k.4)
          | inr l ↦ absurd (none alive.0 alive.2 (goes s.mapped alive.0 (in_use Keys) keeps_ksk
              (λ k e used. (facts alive.0 k e).keeps own
              (of_found (flags_fit Keys Quiet) _ k e (flags Keys own alive.0)) used (ap not l))
              alive.1))
        ]
      where
        new_key : (x : List ℕ) (j : Key) → (world_at tale n).key x ≡ Some j
            → is_listed s.new x ≡ true → j.algorithm ≡ a
            → (affects Zone r ≡ true) × Left tale Zone (Early r) (suc n)
        new_key x j at l same =
            let id : Id = (x, (world_at tale n).added x) in
            let o = family_id n (omega (arith, here)) x j at same in
            let at_key = found_now (world_at tale n) x ∙ at in
            elim (cases_Bool (affects Keys r && remains Keys r (kind_then s x j.keytype))) [
              | inl t ↦ absurd (none_remains own none id o
                  (now-one s.mapped id (remains Keys r) j at_key (and_parts _ _ t).1))
              | inr t ↦ let z = and_parts _ _
                  (or_second _ _ ((facts id j at_key).new (ap not free) l) t) in
                  (z.0, (id, now-one s.mapped id (remains Zone r) j at_key z.1, o))
            ]

    fades : affects Keys r ≡ true → Alive tale Keys n → HasNo tale keeps_ksk (suc n)
        → Fades tale (suc n) r
    fades own alive none = elim (cases_Bool (may_change_algorithms r)) [
      | inl t ↦ let first = changes_first r t in
          (ap (affects Zone) first, refl, none_remains own none, inr first)
      | inr t ↦ let z = takes_over own t alive none in
          (z.0, refl, none_remains own none, inl z.1)
    ]

    comes : affects Keys r ≡ true → HasNo tale engaged n → Has tale keeps_ksk (suc n)
        → (r ≡ AlgorithmRoll) × Left tale Keys (Early r) (suc n) × Left tale Zone (Early r) (suc n)
    comes own lacks h = elim (cases_Bool (may_change_algorithms r)) [
      | inl t ↦ let first = changes_first r t in
          (first, keys_left own h, zone_left (ap (affects Zone) first) h)
      | inr t ↦
          let before = has_of keeps_ksk n (omega (arith, here)) (keeps.none_new n a r
          (start-made all.calls all.es n r starts)
          (λ first. true≢false (sym (ap may_change_algorithms first) ∙ t))
          (of_has keeps_ksk (suc n) here h)) in
          absurd (lacks before.0 before.2 (some_of (flags_fit Keys Quiet) keeps_ksk engaged
          rest-engaged (key_at tale n before.0) (flags Keys own before.0) before.1))
    ]

    pub algorithm-law : Goes tale n r
    algorithm-law = record {
      keys = λ own alive. elim (decide keeps_ksk (suc n) here) [
        | inl h ↦ inl (keys_left own h)
        | inr none ↦ inr (fades own alive none)
      ];
      zone = zone_left;
      absent = λ own passed lacks. elim (decide keeps_ksk (suc n) here) [
        | inl h ↦ inr (comes own lacks h)
        | inr none ↦ inl (away own lacks none)
      ];
    }
