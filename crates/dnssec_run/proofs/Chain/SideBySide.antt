-- An early end keeps the invariant of both sides; and the chain that it gives.
use Rattle.dnssec_run.proofs.Chain.BothSides.{Turn, at_from, away, by_life, lives, only, settled}
use Rattle.dnssec_run.proofs.Chain.BothSides.{stage_by, turned, Inv, born}
use Rattle.dnssec_run.proofs.Chain.Invariant.{Lasts, At, Alive, at-settles, leaving-settles}
use Rattle.dnssec_run.proofs.Chain.Tale.{Passes, key_at, Tale, world_at}
use Rattle.dnssec_run.proofs.Chain.Flags.{Shared, Own, by_set, kind_on}
use Rattle.dnssec_run.proofs.Chain.Keeping.{engaged, ended-engaged, rest-ds}
use Rattle.dnssec_run.proofs.Chain.Places.{NoDs, no_ds-next, no_ds-now, shown_at, some_of, side}
use Rattle.dnssec_run.proofs.Chain.{RollFacts.early-same, Side.Settles, History.Serving}
use Rattle.dnssec_run.proofs.Chain.{History.Without, EarlyEnds.ended-less, Returns.KeepsLists}
use Rattle.dnssec_run.proofs.Chain.{Returns.early_end_key, OneKey.Mapped, OneKey.came}
use Rattle.dnssec_run.proofs.Chain.{Steps.at-early-end, Steps.alive-early-end, Life.Life}
use Rattle.dnssec_run.proofs.Chain.Life.{PassesAt}
use Rattle.dnssec_run.specs.Safe.{Ds, Dnskey, ZoneSigners, position_at, is_step, MayBeCached}
use Rattle.dnssec_run.specs.{declared.record.Mark.TheVariants.Other, Published.Id, Published.in_ds}
use Rattle.std.proofs.Common.{◌≡◌, ℕ, suc, ◌≤◌, ◌⊎◌, inl, inr, Bool, true, sym, ap, subst, arith}
use Rattle.std.proofs.Common.{length, None, Some}
use Rattle.std.specs.List.{Contains}
use Rattle.dnssec_key.specs.declared.roll.RollType.{RollType, TheVariants.AlgorithmRoll}
use Rattle.dnssec_key.specs.declared.{roll.RollState.TheVariants.Propagation1, kind.KeyType.KeyType}
use Rattle.dnssec_zone.proofs.Flags.{SideOf, Keys, Zone, affects, Quiet, Early, flags_fit, ended}

-- an early end
module _ (tale : Tale) (n : ℕ) (here : suc n ≤ length tale.es) (r : RollType)
    (m : Mapped tale n (early_end_key tale r n) r None)
    (phase : (world_at tale n).roll r ≡ Some Propagation1)
    (mark : (position_at tale.es (suc n)).mark ≡ Other)
    (lists : (sd : SideOf) → KeepsLists tale sd n) where
  -- it puts no key into a set
  end_less : (p : KeyType → Bool)
      → ((o i : Bool) (k : KeyType) → p (ended r o i k) ≡ true → p k ≡ true) → (id : Id)
      → Passes tale p (suc n) id → Passes tale p n id
  end_less p less id = came m id p p (λ k a. less _ _ k.keytype)

  end_dead : NoDs tale n → NoDs tale (suc n)
  end_dead = no_ds-next tale n here (end_less in_ds (λ o i k. ended-less Keys Own r o i k))

  module _ (none : PassesAt tale n → ⊥) (h : Inv tale n) where
    turn : Turn tale n h r (Early r) Quiet
    turn = record {
      here = here;
      f = early_end_key tale r n;
      o = None;
      mapped = m;
      beside = λ q x. h.pairs r q Propagation1 x phase;
      no_step = λ q d. ap (is_step q) mark;
      lists = λ sd out. lists sd;
      stage = stage_by h r Propagation1 phase;
      this = λ sides. tt;
    }

    side_then : (sd : SideOf) → affects sd r ≡ true → At tale sd Quiet (suc n)
    side_then sd own = at-early-end tale n here sd r own (only turn sd own) m
        ((at_from turn sd own).back phase)

    lasts : Alive tale Keys n → (sd : SideOf) → affects sd r ≡ true → Lasts tale sd Quiet (suc n)
    lasts k sd own = (
      alive-early-end tale n here sd r own (only turn sd own) m
          ((at_from turn sd own).back phase) (born tale n (omega arith) k),
      tt,
    )

  pub end_early : (PassesAt tale n → ⊥) → Inv tale n → Inv tale (suc n)
  end_early none h =
      let t = turn none h in
      let sides = side_then none h in
      by_life t (λ k z. lives t k z sides (λ sd own a. lasts none h k.0 sd own))
      (λ l. turned t (λ _ _. end_dead) sides (inl (
        settled t Keys l.0 (lasts none h l.4.2 Keys l.0),
        settled t Zone l.1 (lasts none h l.4.2 Zone l.1),
      )))
      (λ d passed lacks. away t (λ _. none) d passed
      (λ id o e. lacks id o (end_less engaged (ended-engaged r) id e)) (λ _. sides))
      -- what isn't in the DS set then isn't in a set on the side of keys
      (λ d passed e c. away t (λ _. none) d passed (λ id o e'. no_ds-now tale (suc n) (end_dead d)
      id o (((shown_at tale (suc n) here).ds id).1 (some_of (flags_fit Keys Quiet) engaged in_ds
      rest-ds (key_at tale (suc n) id) ((sides Keys (ap (affects Keys)
      (sym (early-same AlgorithmRoll r e)))).flags id) e'))) (λ _. sides))

-- ---- what the invariant gives

-- a chain by keys of the family, unless the DS set has none
abbrev pub HasFamilyChain : Tale → ℕ → ℕ → ℕ → Type 0
HasFamilyChain tale p q z = Without tale p
    ⊎ (((k : Id) × Contains (position_at tale.es p).ds k × Serving tale Keys Shared q k
    × (tale.of k ≡ true)) × ((k : Id) × Serving tale Zone Shared q k
    × Serving tale Zone Own z k × (tale.of k ≡ true)))

pub family-safe : (tale : Tale) (n : ℕ) → Inv tale n → (p q z : ℕ) → MayBeCached tale.es Ds p n
    → MayBeCached tale.es Dnskey q n → MayBeCached tale.es ZoneSigners z n
    → HasFamilyChain tale p q z
family-safe tale n h p q z up uq uz = by h.life
  where
    chain : Settles (side tale Keys) n → Settles (side tale Zone) n → HasFamilyChain tale p q z
    chain keys zone = elim keys [
      | inl d ↦ inl (d p up.0 up.1)
      | inr trusted ↦ elim zone [
        | inl d ↦ inl (d p up.0 up.1)
        | inr signed ↦
            let k = trusted (by_set (λ _. ℕ) q p) (by_set (λ set. MayBeCached tale.es
            (kind_on Keys set) (by_set (λ _. ℕ) q p set) n) uq up) in
            let j = signed (by_set (λ _. ℕ) q z) (by_set (λ set. MayBeCached tale.es
            (kind_on Zone set) (by_set (λ _. ℕ) q z set) n) uq uz) in
            elim (k.1 Own) [
              | inl none ↦ inl none
              | inr there ↦
                  inr ((k.0, there, k.1 Shared, k.2), (j.0, j.1 Shared, j.1 Own, j.2))
            ]
      ]
    ]

    by : Life tale h.ks h.zs n → HasFamilyChain tale p q z
    by (inl a) = chain (at-settles tale n Keys h.ks a.0.0 h.keys)
        (at-settles tale n Zone h.zs a.1.0 h.zone)
    by (inr (inl l)) = chain (elim (l.stage) [
      | inl e ↦ at-settles tale n Keys h.ks e.2 h.keys
      | inr e ↦ leaving-settles tale n l.roll e.3.0 l.zone_own e.3.1.1 e.3.2
          (subst (λ s. At tale Keys s n) e.0 h.keys)
    ]) (at-settles tale n Zone h.zs l.zone h.zone)
    by (inr (inr d)) = inl (d.0 p up.0 up.1)
