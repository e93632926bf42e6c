-- Of all DNSKEY sets that caches may hold of a signer, one key is in each, and signs a set of the
-- zone that they hold. So a keeper may leave out what isn't in all of them.
use Rattle.std.proofs.Common.{Bool, List, arith, false, inl, inr, length, refl, subst, true, ℕ}
use Rattle.std.proofs.Common.{◌≡◌, ◌≤◌, ◌⊎◌}
use Rattle.std.proofs.lemmas.Bool.{cases_lt, eq-eqb, eqb-true}
use Rattle.std.specs.List.{Contains}
use Rattle.dnssec_key.specs.declared.roll.RollType.{RollType}
use Rattle.dnssec_zone.proofs.Flags.{Early, Late, Quiet, Stage, Zone, affects}
use Rattle.dnssec_run.proofs.Chain.BothSides.{Inv}
use Rattle.dnssec_run.proofs.Chain.Family.{algorithm-law, of_algorithm, whole-law}
use Rattle.dnssec_run.proofs.Chain.Flags.{Own, Shared, first_set, second_set, switches}
use Rattle.dnssec_run.proofs.Chain.History.{Without}
use Rattle.dnssec_run.proofs.Chain.Invariant.{Alive, At, LateOf, used-some}
use Rattle.dnssec_run.proofs.Chain.{Places.side, Tale.Tale, Tale.key_at, Trust.always, Trust.whole}
use Rattle.dnssec_run.specs.ByAlgorithm.{KeepsWhole, algorithm_of}
use Rattle.dnssec_run.specs.{Plain.IsPlain, Published.Id, Record.IsRun}
use Rattle.dnssec_run.specs.Safe.{Dnskey, Ds, MayBeCached, ZoneSigners, position_at}
use Rattle.dnssec_run.specs.declared.{call.Call.Call, record.Entry.Entry}
use Rattle.dnssec_run.proofs.Chain.Side.{Alive as AliveSide, Cached, Early as EarlySets}
use Rattle.dnssec_run.proofs.Chain.Side.{Late as LateSets, Rest, Side, Since, or_map}

-- ---- a side

-- each shared set in caches does for this key, and the own set of position z
abbrev Steady : Side → ℕ → ℕ → Type 0
Steady S n z = (k : S.Id) × ((q : ℕ) → q ≤ n → (S.gone Shared q n → ⊥) → S.serves Shared q k)
    × S.serves Own z k × S.Of k

module _ (S : Side) (n z : ℕ) (le : z ≤ n) (un : S.gone Own z n → ⊥) where
  rest_steady : AliveSide S n → Rest S n → Steady S n z
  rest_steady a h = (
    a.0,
    λ q up here. h Shared q up here a.0 (a.1 Shared),
    h Own z le un a.0 (a.1 Own),
    a.2,
  )

  early_steady : (b : ℕ) → EarlySets S n b → S.D n ⊎ Steady S n z
  early_steady b h =
      or_map h.old (λ d. d) (λ w. (w.0, λ q up here. w.1 Shared q up here, w.1 Own z le un, w.3))

  -- after the switch the old key or the new one, by the set of position z
  late_steady : (r : RollType) (b : ℕ) → first_set r ≡ Shared → second_set r ≡ Own → AliveSide S n
      → LateSets S r n b → S.D n ⊎ Steady S n z
  late_steady r b one two a h =
      let first : Cached S Shared n (S.has Shared n) =
      subst (λ set. Cached S set n (S.has set n)) one h.first in
      let second : Since S Own n b = subst (λ set. Since S set n b) two h.second in
      or_map h.old (λ d. d) (λ w. elim (cases_lt z b) [
        | inl lt ↦ (
          w.0,
          λ q up here. first q up here w.0 (subst (λ set. S.has set n w.0) one w.1),
          subst (λ set. (S.gone set z n → ⊥) → S.serves set z w.0) two (w.2 z lt) un,
          w.3,
        )
        | inr ge ↦ (
          a.0,
          λ q up here. first q up here a.0 (a.1 Shared),
          second z le ge a.0 (a.1 Own),
          a.2,
        )
      ])

-- ---- the side of the zone

-- on it the DNSKEY set is the first
zone_sets : (r : RollType) → affects Zone r ≡ true
    → (first_set r ≡ Shared) × (second_set r ≡ Own)
zone_sets r own = (grind arith, grind arith)

module _ (tale : Tale) (n z : ℕ) (cached : MayBeCached tale.es ZoneSigners z n) where
  alive_side : Alive tale Zone n → AliveSide (side tale Zone) n
  alive_side a = (a.0, λ set. used-some Zone set (key_at tale n a.0) a.1, a.2)

  late_zone : (r : RollType) (b : ℕ) (w : Bool) → affects Zone r ≡ true → Alive tale Zone n
      → LateOf tale Zone r n b w → (side tale Zone).D n ⊎ Steady (side tale Zone) n z
  late_zone r b true own a h =
      let sets = zone_sets r own in
      late_steady (side tale Zone) n z cached.0 cached.1 r b sets.0 sets.1 (alive_side a) h
  late_zone r b false own a h =
      inr (rest_steady (side tale Zone) n z cached.0 cached.1 (alive_side a) h)

  zone_steady : (st : Stage) → Alive tale Zone n → At tale Zone st n
      → (side tale Zone).D n ⊎ Steady (side tale Zone) n z
  zone_steady Quiet a h =
      inr (rest_steady (side tale Zone) n z cached.0 cached.1 (alive_side a) h.holds)
  zone_steady (Early r) a h =
      early_steady (side tale Zone) n z cached.0 cached.1 h.holds.0 h.holds.2
  zone_steady (Late r) a h = late_zone r h.holds.0 (switches Zone r) h.own a h.holds.2

  -- with a key of the family in a DS set that caches may hold, nothing excuses the zone
  family_steady : Inv tale n → (p : ℕ) → MayBeCached tale.es Ds p n
      → (Without tale p → ⊥) → Steady (side tale Zone) n z
  family_steady h p up some = elim (h.life) [
    | inl a ↦ asked (zone_steady h.zs a.1.0 h.zone)
    | inr rest ↦ elim rest [
      | inl l ↦ asked (zone_steady h.zs l.zone h.zone)
      | inr d ↦ absurd (some (d.0 p up.0 up.1))
    ]
  ]
    where
      asked : (side tale Zone).D n ⊎ Steady (side tale Zone) n z → Steady (side tale Zone) n z
      asked (inl d) = absurd (some (d p up.0 up.1))
      asked (inr s) = s

-- ---- of a run

-- a key that each DNSKEY set in caches has, and that signs the zone's sets of position z
abbrev pub SteadyKey : List Entry → ℕ → ℕ → Type 0
SteadyKey entries n z = (k : Id)
    × ((q : ℕ) → MayBeCached entries Dnskey q n → Contains (position_at entries q).dnskey k)
    × Contains (position_at entries z).zone k

module _ (name : List ℕ) (calls : List Call) (entries : List Entry)
    (run : IsRun name calls entries) (plain : IsPlain name calls entries) (n : ℕ)
    (le : n ≤ length entries) (p z : ℕ) (up : MayBeCached entries Ds p n)
    (uz : MayBeCached entries ZoneSigners z n) (d : Id)
    (in_ds : Contains (position_at entries p).ds d) where
  -- if a plain list has a DS in caches, it has such a key
  pub steady-key : SteadyKey entries n z
  steady-key =
      let tale = whole name calls entries run plain in
      let s = family_steady tale n z uz (always tale (whole-law tale refl) n le) p up
      (λ none. none d refl in_ds) in
      (s.0, λ q c. s.1 q c.0 c.1, s.2)

  -- one of the same algorithm, if it also keeps the sets whole
  pub steady-each : KeepsWhole name calls entries → (k : SteadyKey entries n z)
      × (algorithm_of calls k.0 ≡ algorithm_of calls d)
  steady-each keeps =
      let a = algorithm_of calls d in
      let all = whole name calls entries run plain in
      let tale = of_algorithm all a in
      let s = family_steady tale n z uz (always tale (algorithm-law all a keeps) n le) p up
      (λ none. none d (eq-eqb a a refl) in_ds) in
      ((s.0, λ q c. s.1 q c.0 c.1, s.2), eqb-true _ a s.3)
