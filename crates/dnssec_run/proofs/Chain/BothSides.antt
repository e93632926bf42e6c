-- The invariant of both sides together, and what one step does to its parts.
use Rattle.dnssec_key.specs.declared.roll.RollType.{TheVariants.AlgorithmRoll, RollType}
use Rattle.dnssec_key.specs.declared.roll.RollState.{RollState}
use Rattle.dnssec_key.specs.declared.roll.RollState.TheVariants.{Propagation1, Propagation2, Done}
use Rattle.dnssec_key.specs.declared.roll.Half.{Half}
use Rattle.dnssec_key.specs.declared.roll.Half.TheVariants.{First, Second}
use Rattle.dnssec_key.specs.RollTable.{after_report, cache_expire, is_second}
use Rattle.dnssec_run.proofs.Chain.Invariant.{HasNo, Lasts, has_no-gentle, lasts-gentle, At, Alive}
use Rattle.dnssec_run.proofs.Chain.Invariant.{Gentle, at-gentle, used-some}
use Rattle.dnssec_run.proofs.Chain.Life.{Comes, LeavesEarly, LeavesLate, Unpassed, unpassed-next}
use Rattle.dnssec_run.proofs.Chain.Life.{without-engaged, Life, PassesAt, life-on}
use Rattle.dnssec_run.proofs.Chain.Rolls.{clash, same-same, stage_in, StageFits, is_of, put-same}
use Rattle.dnssec_run.proofs.Chain.Rolls.{put-other}
use Rattle.dnssec_run.proofs.Chain.Tale.{key_at, Tale, Key, world_at, put_roll}
use Rattle.dnssec_run.proofs.Chain.Places.{NoDs, no_ds-bare, no_ds-next, no_ds-now, shown_at}
use Rattle.dnssec_run.proofs.Chain.Places.{found_map}
use Rattle.dnssec_run.proofs.Chain.KeyCalls.{Kept, gentle-kept, kept-on}
use Rattle.dnssec_run.proofs.Chain.Phases.{Phases, PhaseOf, Reported, Reads, phase-aside}
use Rattle.dnssec_run.proofs.Chain.Phases.{aside-kept, aside-on, reported-now}
use Rattle.dnssec_run.proofs.Chain.{Gentles.gentle-other, Gentles.gentle-still, Keeping.engaged}
use Rattle.dnssec_run.proofs.Chain.{Keeping.engaged-seen, RollFacts.some_side}
use Rattle.dnssec_run.proofs.Chain.{RollFacts.together-sym, Flags.Own, Facts.test-seen}
use Rattle.dnssec_run.proofs.Chain.{Same.some-was, Returns.KeepsLists, OneKey.Mapped, OneKey.came}
use Rattle.dnssec_run.specs.declared.record.Mark.TheVariants.{Other, Report}
use Rattle.dnssec_run.specs.{Published.in_ds, Safe.position_at, Safe.is_step}
use Rattle.dnssec_run.specs.WholeRolls.{propagation}
use Rattle.dnssec_zone.proofs.Flags.{Early, Late, Quiet, affects, SideOf, Keys, Zone, Stage}
use Rattle.dnssec_zone.specs.Rolls.{same_roll}
use Rattle.dnssec_zone.specs.Start.{together, lists_kind, side_of}
use Rattle.std.proofs.Common.{arith, ◌⊎◌, inr, inl, ◌≡◌, ℕ, suc, ◌≤◌, true, false, refl, sym, ◌∙◌}
use Rattle.std.proofs.Common.{ap, subst, List, length, Option, None, Some}
use Rattle.std.proofs.lemmas.Bool.{true≢false, cases_Bool}
use Rattle.std.specs.{Option.option_map, Prelude.if◌then◌else◌, Prelude.◌==◌}
use Rattle.dnssec_keyset.proofs.{Exchange.Kinds.kind_number, Laws.same-is}

-- ---- the invariant

abbrev pub Pairs : Tale → ℕ → Type 0
Pairs tale n = (r q : RollType) (o p : RollState) → (world_at tale n).roll r ≡ Some o
    → (world_at tale n).roll q ≡ Some p → same_roll r q ≡ false → together r q ≡ true

-- what is so of a roll's phase, if it is in progress
abbrev pub PhaseThen : Tale → RollType → Option RollState → ℕ → Type 0
PhaseThen tale r None n = Unit {0}
PhaseThen tale r (Some p) n = PhaseOf tale r p n

-- a roll goes together with the others in progress
abbrev pub Joins : Tale → ℕ → RollType → Type 0
Joins tale n r = (q : RollType) (x : RollState) → (world_at tale n).roll q ≡ Some x
    → same_roll r q ≡ false → together r q ≡ true

pub record Inv (tale : Tale) (n : ℕ) : Type 0 where
  pub ks : Stage
  pub zs : Stage
  pub keys : At tale Keys ks n
  pub zone : At tale Zone zs n
  pub pairs : Pairs tale n
  pub phases : Phases tale n
  pub life : Life tale ks zs n

pub mapped : (tale : Tale) (n : ℕ) (f : List ℕ → Key → Key) (r : RollType) (o : Option RollState)
    → ((q : List ℕ) → (world_at tale (suc n)).key q ≡ option_map (f q) ((world_at tale n).key q))
    → ((q : List ℕ) → (world_at tale (suc n)).added q ≡ (world_at tale n).added q)
    → ((q : RollType) → (world_at tale (suc n)).roll q ≡ put_roll (world_at tale n).roll r o q)
    → ((q : List ℕ) (k : Key) → kind_number (f q k).keytype ≡ kind_number k.keytype)
    → ((q : List ℕ) (k : Key) → (world_at tale n).key q ≡ Some k
    → lists_kind (side_of r) k.keytype ≡ false → f q k ≡ k) → Mapped tale n f r o
mapped tale n f r o keys added rolls kinds leaves = record {
  keys = keys;
  founds = λ id. (λ i. if added id.0 i == id.1 then keys id.0 i else None)
      ∙ found_map ((world_at tale n).added id.0 == id.1) (f id.0) ((world_at tale n).key id.0);
  rolls = rolls;
  kinds = kinds;
  leaves = leaves;
}

-- if a key is in use on the side of keys, the DS set has a key of the family
pub born : (tale : Tale) (n : ℕ) → n ≤ length tale.es → Alive tale Keys n → NoDs tale n → ⊥
born tale n le a d =
    no_ds-now tale n d a.0 a.2 (((shown_at tale n le).ds a.0).1
    (used-some Keys Own (key_at tale n a.0) a.1))

-- so it is asked nothing less afterwards
pub never-dead : (tale : Tale) (n : ℕ) → n ≤ length tale.es → Alive tale Keys n → NoDs tale n
    → NoDs tale (suc n)
never-dead tale n le a d = absurd (born tale n le a d)

-- ---- one step

module _ (tale : Tale) (n : ℕ) (here : suc n ≤ length tale.es) where
  pub ds_less : {f : List ℕ → Key → Key} {r : RollType} {o : Option RollState} → Mapped tale n f r o
      → ((q : List ℕ) (k : Key) → in_ds (f q k).keytype ≡ in_ds k.keytype) → NoDs tale n
      → NoDs tale (suc n)
  ds_less m h = no_ds-next tale n here (λ id. came m id in_ds in_ds (λ k a e. sym (h id.0 k) ∙ e))

  -- ---- calls of a roll

  module _ (h : Inv tale n) {f : List ℕ → Key → Key} {r : RollType} {o : Option RollState}
      (m : Mapped tale n f r o) (beside : Joins tale n r)
      (no_step : (q : RollType) → same_roll r q ≡ false
      → is_step q (position_at tale.es (suc n)).mark ≡ false) where
    -- a roll in progress then: that roll, or one that was
    rolling : (q : RollType) (x : RollState) → (world_at tale (suc n)).roll q ≡ Some x
        → ((r ≡ q) × (o ≡ Some x))
        ⊎ ((same_roll r q ≡ false) × ((world_at tale n).roll q ≡ Some x))
    rolling q x e = elim (cases_Bool (same_roll r q)) [
      | inl t ↦ let eq = same-is r q t in inl (
        eq,
        sym (put-same (world_at tale n).roll r o)
            ∙ sym (m.rolls r) ∙ ap (world_at tale (suc n)).roll eq ∙ e,
      )
      | inr t ↦ inr (t, sym (put-other (world_at tale n).roll r o q t) ∙ sym (m.rolls q) ∙ e)
    ]

    pub pairs-on : Pairs tale (suc n)
    pairs-on a b x y ax by d = elim (rolling a x ax) [
      | inl p ↦ subst (λ a. together a b ≡ true) p.0 (elim (rolling b y by) [
        | inl q ↦ absurd (true≢false (sym (same-same r)
            ∙ (λ i. same_roll (p.0 i) (q.0 i)) ∙ d))
        | inr q ↦ beside b y q.1 q.0
      ])
      | inr p ↦ elim (rolling b y by) [
        | inl q ↦ together-sym a b
            ∙ subst (λ b. together b a ≡ true) q.0 (beside a x p.1 p.0)
        | inr q ↦ h.pairs a b x y p.1 q.1 d
      ]
    ]

    pub phases-on : PhaseThen tale r o (suc n) → Phases tale (suc n)
    phases-on this q x e = elim (rolling q x e) [
      | inl s ↦ subst (λ q. PhaseOf tale q x (suc n)) s.0
          (subst (λ o. PhaseThen tale r o (suc n)) s.1 this)
      | inr s ↦ phase-aside tale n q
          (aside-on tale n m q (beside q x s.1 s.0) (no_step q s.0)) x (h.phases q x s.1)
    ]

  -- one that leaves both sides where they are
  stay : (h : Inv tale n) → ((sd : SideOf) (st : Stage) → At tale sd st n → Gentle tale sd st n)
      → (PassesAt tale n → ⊥) → Pairs tale (suc n) → Phases tale (suc n) → Inv tale (suc n)
  stay h g none pairs phases =
      let gk = g Keys h.ks h.keys in
      let gz = g Zone h.zs h.zone in
      record {
        ks = h.ks;
        zs = h.zs;
        keys = at-gentle tale n here Keys h.ks gk h.keys;
        zone = at-gentle tale n here Zone h.zs gz h.zone;
        pairs = pairs;
        phases = phases;
        life = life-on tale n here h.ks h.zs gk gz none h.life;
      }

  -- a refusal, an add, a deletion
  pub calm : Kept (world_at tale n) (world_at tale (suc n))
      → (position_at tale.es (suc n)).mark ≡ Other → (PassesAt tale n → ⊥)
      → ((sd : SideOf) → KeepsLists tale sd n) → Inv tale n → Inv tale (suc n)
  calm k mark none lists h =
      let dead = no_ds-next tale n here (λ id. some-was Keys in_ds (test-seen Keys Own)
      (key_at tale n id) (key_at tale (suc n) id) (kept-on tale n k Keys id)) in
      stay h (λ sd st x. gentle-kept tale n k mark dead lists sd st x.rolls) none
      (λ r q o p ro qp d. h.pairs r q o p (sym (k.rolls r) ∙ ro) (sym (k.rolls q) ∙ qp) d)
      (λ r p f. phase-aside tale n r (aside-kept tale n k mark r) p
      (h.phases r p (sym (k.rolls r) ∙ f)))

  -- a call of a roll in progress that leaves all flags
  still : {f : List ℕ → Key → Key} {r : RollType} {o : Option RollState} (m : Mapped tale n f r o)
      → ((q : List ℕ) (k : Key) → k.keytype ≡ (f q k).keytype) → (p : RollState)
      → (world_at tale n).roll r ≡ Some p
      → ((st : Stage) → StageFits st r (Some p) → StageFits st r o)
      → ((q : RollType) → is_step q (position_at tale.es (suc n)).mark ≡ false)
      → ((h : Inv tale n) → PhaseThen tale r o (suc n)) → (PassesAt tale n → ⊥)
      → ((sd : SideOf) → KeepsLists tale sd n) → Inv tale n → Inv tale (suc n)
  still {r = r} m same p phase on no_step this none lists h =
      let beside = λ (q : RollType) (x : RollState). h.pairs r q p x phase in
      stay h (λ sd st x. gentle-still tale n sd st x.rolls
      (ds_less m (λ q k. ap in_ds (sym (same q k)))) (lists sd) m same p phase (on st) no_step) none
      (pairs-on h m beside (λ q d. no_step q))
      (phases-on h m beside (λ q d. no_step q) (this h))

  -- a report
  pub report : (r : RollType) (half : Half) (ttl now : ℕ)
      → Mapped tale n (λ q. after_report r half now) r (Some (cache_expire half ttl))
      → (world_at tale n).roll r ≡ Some (propagation half)
      → (position_at tale.es (suc n)).mark ≡ Report r (is_second half) ttl
      → (position_at tale.es (suc n)).moment ≡ Some now → (PassesAt tale n → ⊥)
      → ((sd : SideOf) → KeepsLists tale sd n) → Inv tale n → Inv tale (suc n)
  report r half ttl now m phase mark moment = still m (λ q k. refl) (propagation half) phase
      (expires half) (λ q. ap (is_step q) mark)
      (λ h. this h half phase (reported-now tale n r half ttl now m mark moment))
    where
      expires : (half : Half) (st : Stage) → StageFits st r (Some (propagation half))
          → StageFits st r (Some (cache_expire half ttl))
      expires First st e = e
      expires Second st e = e

      this : (h : Inv tale n) (half : Half) → (world_at tale n).roll r ≡ Some (propagation half)
          → (Reads tale r half n → Reported tale r half (suc n) ttl)
          → PhaseOf tale r (cache_expire half ttl) (suc n)
      this h First phase last = last (h.phases r Propagation1 phase)
      this h Second phase last = last (h.phases r Propagation2 phase)

  -- the end of a roll
  pub done : (r : RollType) → Mapped tale n (λ q k. k) r None → (world_at tale n).roll r ≡ Some Done
      → (position_at tale.es (suc n)).mark ≡ Other → (PassesAt tale n → ⊥)
      → ((sd : SideOf) → KeepsLists tale sd n) → Inv tale n → Inv tale (suc n)
  done r m phase mark = still m (λ q k. refl) Done phase (λ st. ap (λ s. is_of s r))
      (λ q. ap (is_step q) mark) (λ h. tt)

-- ---- calls that move the sides of a roll

abbrev pub stage_on : {tale : Tale} {n : ℕ} → Inv tale n → SideOf → Stage
stage_on h Keys = h.ks
stage_on h Zone = h.zs

pub at_on : {tale : Tale} {n : ℕ} (h : Inv tale n) (sd : SideOf) → At tale sd (stage_on h sd) n
at_on h Keys = h.keys
at_on h Zone = h.zone

-- the stage of a side that has a roll in progress
pub stage_by : {tale : Tale} {n : ℕ} (h : Inv tale n) (r : RollType) (p : RollState)
    → (world_at tale n).roll r ≡ Some p → (sd : SideOf) → affects sd r ≡ true
    → stage_on h sd ≡ stage_in r p
stage_by h r p phase sd own = subst (StageFits (stage_on h sd) r) phase ((at_on h sd).rolls r own)

-- a call of r that takes its sides from one stage to another
pub record Turn (tale : Tale) (n : ℕ) (h : Inv tale n) (r : RollType) (from to : Stage)
    : Type 0 where
  pub here : suc n ≤ length tale.es
  pub f : List ℕ → Key → Key
  pub o : Option RollState
  pub mapped : Mapped tale n f r o
  pub beside : Joins tale n r
  pub no_step : (q : RollType) → same_roll r q ≡ false
      → is_step q (position_at tale.es (suc n)).mark ≡ false
  pub lists : (sd : SideOf) → affects sd r ≡ false → KeepsLists tale sd n
  pub stage : (sd : SideOf) → affects sd r ≡ true → stage_on h sd ≡ from
  pub this : ((sd : SideOf) → affects sd r ≡ true → At tale sd from n) → PhaseThen tale r o (suc n)

-- what a family that leaves is to a side at this stage
abbrev pub Leaving : {tale : Tale} {n : ℕ} → Inv tale n → Stage → Type 0
Leaving h Quiet = ⊥
Leaving {tale = tale} {n = n} h (Early r) = (affects Keys r ≡ true) × (affects Zone r ≡ true)
    × (tale.whole ≡ false) × Alive tale Zone n × LeavesEarly tale r h.ks h.zs n
Leaving {tale = tale} {n = n} h (Late r) = (affects Keys r ≡ true) × (affects Zone r ≡ true)
    × (tale.whole ≡ false) × Alive tale Zone n × LeavesLate tale r h.ks h.zs n

module _ {tale : Tale} {n : ℕ} {h : Inv tale n} {r : RollType} {from to : Stage}
    (t : Turn tale n h r from to) where
  -- the stage of a side after it
  abbrev pub after : SideOf → Stage
  after sd = if affects sd r then to else stage_on h sd

  pub moved-to : (sd : SideOf) → affects sd r ≡ true → after sd ≡ to
  moved-to sd own = ap (λ b. if b then to else stage_on h sd) own

  pub at_from : (sd : SideOf) → affects sd r ≡ true → At tale sd from n
  at_from sd own = subst (λ s. At tale sd s n) (t.stage sd own) (at_on h sd)

  -- its other rolls aren't in progress
  pub only : (sd : SideOf) → affects sd r ≡ true → (q : RollType) → affects sd q ≡ true
      → same_roll r q ≡ false → (world_at tale n).roll q ≡ None
  only sd own q its d = by ((world_at tale n).roll q) refl
    where
      by : (o : Option RollState) → (world_at tale n).roll q ≡ o → (world_at tale n).roll q ≡ None
      by None e = e
      by (Some x) e = absurd (true≢false (sym (t.beside q x e d) ∙ clash sd r q own its))

  -- a stage of both sides is that of the roll
  at_both : (st : Stage) → h.ks ≡ st → h.zs ≡ st → st ≡ from
  at_both st k z = elim (cases_Bool (affects Keys r)) [
    | inl own ↦ sym k ∙ t.stage Keys own
    | inr out ↦ sym z ∙ t.stage Zone (some_side r out)
  ]

  aside : (sd : SideOf) → (NoDs tale n → NoDs tale (suc n)) → affects sd r ≡ false
      → Gentle tale sd (stage_on h sd) n
  aside sd dead out = gentle-other tale n sd (stage_on h sd) (at_on h sd).rolls dead
      (t.lists sd out) t.mapped out t.no_step

  -- what holds of a side after it, whether or not that is one of the roll's
  by_stage : (sd : SideOf) (P : Stage → Type 0) → (affects sd r ≡ true → P to)
      → (affects sd r ≡ false → P (stage_on h sd)) → P (after sd)
  by_stage sd P own out = elim (cases_Bool (affects sd r)) [
    | inl t ↦ subst P (sym (moved-to sd t)) (own t)
    | inr t ↦ subst P (sym (ap (λ b. if b then to else stage_on h sd) t)) (out t)
  ]

  -- both sides after it; those that aren't the roll's are left alone
  module _ (dead : (sd : SideOf) → affects sd r ≡ false → NoDs tale n → NoDs tale (suc n))
      (on : (sd : SideOf) → affects sd r ≡ true → At tale sd to (suc n)) where
    pub side_after : (sd : SideOf) → At tale sd (after sd) (suc n)
    side_after sd = by_stage sd (λ st. At tale sd st (suc n)) (on sd) (λ out.
        at-gentle tale n t.here sd (stage_on h sd) (aside sd (dead sd out) out) (at_on h sd))

    pub turned : Life tale (after Keys) (after Zone) (suc n) → Inv tale (suc n)
    turned life = record {
      ks = after Keys;
      zs = after Zone;
      keys = side_after Keys;
      zone = side_after Zone;
      pairs = pairs-on tale n t.here h t.mapped t.beside t.no_step;
      phases = phases-on tale n t.here h t.mapped t.beside t.no_step (t.this at_from);
      life = life;
    }

  -- the family on a side
  pub settled : (sd : SideOf) → affects sd r ≡ true → Lasts tale sd to (suc n)
      → Lasts tale sd (after sd) (suc n)
  settled sd own = subst (λ st. Lasts tale sd st (suc n)) (sym (moved-to sd own))

  pub lasting : (sd : SideOf) → (NoDs tale n → NoDs tale (suc n)) → Lasts tale sd (stage_on h sd) n
      → (affects sd r ≡ true → Lasts tale sd from n → Lasts tale sd to (suc n))
      → Lasts tale sd (after sd) (suc n)
  lasting sd dead a on = by_stage sd (λ st. Lasts tale sd st (suc n))
      (λ own. on own (subst (λ st. Lasts tale sd st n) (t.stage sd own) a))
      (λ out. lasts-gentle tale n t.here sd (stage_on h sd) (aside sd dead out) a)

  -- it stays
  pub lives : Lasts tale Keys h.ks n → Lasts tale Zone h.zs n
      → ((sd : SideOf) → affects sd r ≡ true → At tale sd to (suc n))
      → ((sd : SideOf) → affects sd r ≡ true → Lasts tale sd from n → Lasts tale sd to (suc n))
      → Inv tale (suc n)
  lives k z at on =
      let dead = never-dead tale n (omega (arith, t.here)) k.0 in
      turned (λ _ _. dead) at
      (inl (lasting Keys dead k (on Keys), lasting Zone dead z (on Zone)))

  -- none of it is in a set on the side of keys
  pub lacks-on : (affects Keys r ≡ false → NoDs tale n → NoDs tale (suc n))
      → (affects Keys r ≡ true → HasNo tale engaged (suc n)) → HasNo tale engaged n
      → HasNo tale engaged (suc n)
  lacks-on dead on lacks = elim (cases_Bool (affects Keys r)) [
    | inl own ↦ on own
    | inr out ↦ has_no-gentle tale n t.here Keys h.ks engaged engaged-seen
        (aside Keys (dead out) out) lacks
  ]

  pub away : (tale.whole ≡ true → PassesAt tale n → ⊥) → NoDs tale n
      → (tale.whole ≡ true → Unpassed tale n) → HasNo tale engaged (suc n) → (NoDs tale (suc n)
      → (sd : SideOf) → affects sd r ≡ true → At tale sd to (suc n)) → Inv tale (suc n)
  away none was passed lacks at =
      let d = no_ds-bare tale n t.here (without-engaged tale n t.here lacks) was in
      turned (λ _ _ _. d) (at d)
      (inr (inr (d, (λ w. unpassed-next tale n (none w) (passed w)), inl lacks)))

  -- how it fares before
  pub by_life : {P : Type 0} → (Lasts tale Keys h.ks n → Lasts tale Zone h.zs n → P)
      → (Leaving h from → P)
      → (NoDs tale n → (tale.whole ≡ true → Unpassed tale n) → HasNo tale engaged n → P)
      → (NoDs tale n → (tale.whole ≡ true → Unpassed tale n) → Early AlgorithmRoll ≡ from
      → Comes tale h.ks h.zs n → P) → P
  by_life alive leaves absent comes = elim (h.life) [
    | inl a ↦ alive a.0 a.1
    | inr rest ↦ elim rest [
      | inl l ↦ leaves (elim (l.stage) [
        | inl e ↦ subst (Leaving h) (at_both (Early l.roll) e.0 e.1)
            (l.keys_own, l.zone_own, l.mixed, l.zone, e)
        | inr e ↦ subst (Leaving h) (at_both (Late l.roll) e.0 e.1)
            (l.keys_own, l.zone_own, l.mixed, l.zone, e)
      ])
      | inr d ↦ elim (d.2) [
        | inl lacks ↦ absent d.0 d.1 lacks
        | inr c ↦ comes d.0 d.1 (at_both (Early AlgorithmRoll) c.0 c.1) c
      ]
    ]
  ]
