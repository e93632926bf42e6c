-- The calls of a roll on a side that the roll affects.
use Rattle.dnssec_run.proofs.Chain.Facts.{Waited1, wait1_facts, Waited2, wait2_facts}
use Rattle.dnssec_run.proofs.Chain.Flags.{Started, start_facts, remains, SideSet, first_set, is_in}
use Rattle.dnssec_run.proofs.Chain.Flags.{second_set, kind_on, in_use, live, switches}
use Rattle.dnssec_run.proofs.Chain.OneKey.{Mapped, Starts, Waits, kind_then, may_found, of_found}
use Rattle.dnssec_run.proofs.Chain.OneKey.{goes, came, stands}
use Rattle.dnssec_run.proofs.Chain.Tale.{Passes, key_at, Tale, Key, world_at}
use Rattle.dnssec_run.proofs.Chain.Side.{or_map, Rest, Witness, early-starts, early-switches}
use Rattle.dnssec_run.proofs.Chain.Side.{early-rests, late-closes, rest-shrinks, cached-on}
use Rattle.dnssec_run.proofs.Chain.Rolls.{StageFits, is_of, same-same, stage_own, put-fits}
use Rattle.dnssec_run.proofs.Chain.History.{Retired, Serving, base_here, retired_stays}
use Rattle.dnssec_run.proofs.Chain.History.{first-retires, second-retires}
use Rattle.dnssec_run.proofs.Chain.Places.{Fits, side, NoDs, found_key, some_weaker, shows}
use Rattle.dnssec_run.proofs.Chain.EarlyEnds.{there_and_back, is_tied, back-fits, back-less}
use Rattle.dnssec_run.proofs.Chain.Returns.{Back, LeadsBack, StaysIn, stays-shown, kind_back}
use Rattle.dnssec_run.proofs.Chain.Returns.{early_end_key}
use Rattle.dnssec_run.proofs.Chain.Invariant.{At, Based, LateOf, Alive, Holds, Left, Lasts}
use Rattle.dnssec_run.proofs.Chain.Invariant.{used-some}
use Rattle.dnssec_run.specs.Safe.{position_at, is_step, IsGone, retires}
use Rattle.dnssec_run.specs.{declared.record.Mark.TheVariants.Step, Published.Id}
use Rattle.std.proofs.Common.{◌≡◌, ℕ, suc, ◌≤◌, ◌⊎◌, inl, inr, Bool, true, false, not, ◌&&◌, refl}
use Rattle.std.proofs.Common.{sym, ◌∙◌, ap, subst, arith, List, length, Option, None, Some}
use Rattle.std.{specs.Option.option_map_or, proofs.lemmas.Bool.and_parts}
use Rattle.dnssec_key.specs.{State.is_kept, Key.all_states, declared.roll.RollType.RollType}
use Rattle.dnssec_key.specs.declared.{roll.RollState.RollState, kind.KeyType.KeyType}
use Rattle.dnssec_key.specs.declared.roll.Half.TheVariants.{First, Second}
use Rattle.dnssec_zone.specs.{Rolls.same_roll, Start.is_listed}
use Rattle.dnssec_zone.proofs.Flags.{SideOf, affects, Stage, Quiet, Early, Late, flags_fit, ended}
use Rattle.dnssec_keyset.proofs.Laws.{same-is}

-- what a side may know before the first wait, if nothing is asked of it: nothing will be; or a key
-- will be in use, and each second set serves for any
abbrev pub NewAt : (tale : Tale) → SideOf → RollType → ℕ → Type 0
NewAt tale sd r n = NoDs tale (suc n)
    ⊎ (Left tale sd (Early r) n × ((id : Id) (q : ℕ) → q ≤ n
    → (IsGone tale.es (kind_on sd (second_set r)) q n → ⊥) → Serving tale sd (second_set r) q id))

-- a side of the roll; its other rolls aren't in progress
module _ (tale : Tale) (n : ℕ) (here : suc n ≤ length tale.es) (sd : SideOf) (r : RollType)
    (own : affects sd r ≡ true) (only : (q : RollType) → affects sd q ≡ true
    → same_roll r q ≡ false → (world_at tale n).roll q ≡ None) where
  -- a key of the set
  abbrev In : SideSet → ℕ → Id → Type 0
  In set n id = Passes tale (is_in sd set) n id

  fits_at : {st : Stage} → At tale sd st n → (id : Id) (k : Key) → key_at tale n id ≡ Some k
      → flags_fit sd st k.keytype ≡ true
  fits_at {st = st} h id k e = of_found (flags_fit sd st) _ k e (h.flags id)

  -- the side after a call
  moved : {f : List ℕ → Key → Key} {o : Option RollState} (m : Mapped tale n f r o) (to : Stage)
      → stage_own sd to ≡ true → StageFits to r o
      → ((q : RollType) → same_roll r q ≡ false → is_of to q ≡ false)
      → ((id : Id) (k : Key) → key_at tale n id ≡ Some k
      → flags_fit sd to (f id.0 k).keytype ≡ true) → Holds tale sd to (suc n)
      → Back tale sd to (suc n) → At tale sd to (suc n)
  moved {o = o} m to is_own this other fits holds back = record {
    own = is_own;
    rolls = λ q e. subst (StageFits to q) (sym (m.rolls q))
        (put-fits to (world_at tale n).roll r o q
        (λ t. subst (λ q. StageFits to q o) (same-is r q t) this)
        (λ d. subst (StageFits to q) (sym (only q e d)) (other q d)));
    flags = λ id. stands m id (flags_fit sd to) (fits id);
    holds = holds;
    back = back;
  }

  -- a key of the family that passes after it
  abbrev on_to : {f : List ℕ → Key → Key} {o : Option RollState} → Mapped tale n f r o
      → (p q : Id → KeyType → Bool) → ((id : Id) (k : Key) → key_at tale n id ≡ Some k
      → p id k.keytype ≡ true → q id (f id.0 k).keytype ≡ true)
      → (id : Id) × (Passes tale (p id) n id) × (tale.of id ≡ true)
      → (id : Id) × (Passes tale (q id) (suc n) id) × (tale.of id ≡ true)
  on_to m p q on a = (a.0, goes m a.0 (p a.0) (q a.0) (on a.0) a.1, a.2)

  -- its base is the call that starts it, or ends its first wait
  based_here : (position_at tale.es (suc n)).mark ≡ Step r → Based tale.es r (suc n) (suc n)
  based_here mark = (omega arith, base_here tale.es r (suc n) (ap (is_step r) mark ∙ same-same r))

  -- a start
  module _ (s : Starts tale n r) (ties : (id : Id) → Fits tale is_tied n id)
      (h : At tale sd Quiet n) where
    facts : (id : Id) (k : Key) → key_at tale n id ≡ Some k
        → Started sd r (is_listed s.old id.0) (is_listed s.new id.0) k.keytype
    facts id k e = start_facts sd r (is_listed s.old id.0) (is_listed s.new id.0) k.keytype own
        (may_found s id k e) (fits_at h id k e)

    pub alive-start : Alive tale sd n → Alive tale sd (suc n)
    alive-start = on_to s.mapped (λ _. in_use sd) (λ _. in_use sd) (λ id k e. (facts id k e).used)

    -- what an early end would make of a key now
    abbrev back_then : Id → KeyType → KeyType
    back_then id k = there_and_back r (is_listed s.old id.0) (is_listed s.new id.0) k

    back_key : (p : KeyType → Bool) (id : Id) (k : Key) → key_at tale n id ≡ Some k
        → p (kind_back tale r (suc n) id.0 (kind_then s id.0 k.keytype))
        ≡ p (back_then id k.keytype)
    back_key p id k e =
        let key : (world_at tale n).key id.0 ≡ Some k = (found_key (world_at tale n) id k e).0 in
        let was = s.olds id.0 ∙ ap (λ o. is_listed s.old id.0
        && option_map_or (λ (k : Key). all_states is_kept k.keytype) o false) key in
        λ j. p (ended r (was j) (s.news id.0 j) (kind_then s id.0 k.keytype))

    back_facts : (id : Id) (k : Key) → key_at tale n id ≡ Some k
        → (flags_fit sd Quiet (back_then id k.keytype) ≡ true)
        × (in_use sd k.keytype ≡ true → in_use sd (back_then id k.keytype) ≡ true)
    back_facts id k e = back-fits sd r (is_listed s.old id.0) (is_listed s.new id.0) k.keytype
        own (may_found s id k e) (fits_at h id k e) (of_found is_tied _ k e (ties id))

    leads-start : (NoDs tale (suc n) ⊎ Alive tale sd n) → LeadsBack tale sd r (suc n)
    leads-start life = record {
      flags = λ id. stands s.mapped id (λ k. flags_fit sd Quiet (kind_back tale r (suc n) id.0 k))
          (λ k f. back_key (flags_fit sd Quiet) id k f ∙ (back_facts id k f).0);
      rest = λ set. cached-on (side tale sd) n here set (In set n) (StaysIn tale sd r (suc n) set)
          (λ id. came s.mapped id (is_in sd set)
          (λ k. is_in sd set (kind_back tale r (suc n) id.0 k))
          (λ k f e. back-less sd set r (is_listed s.old id.0) (is_listed s.new id.0) k.keytype
          (may_found s id k f) (sym (back_key (is_in sd set) id k f) ∙ e)))
          (stays-shown tale sd r (suc n) here set) (h.holds set);
      used = or_map life (λ d. d) (on_to s.mapped (λ _. in_use sd)
          (λ id k. in_use sd (kind_back tale r (suc n) id.0 k))
          (λ id k f e. back_key (in_use sd) id k f ∙ (back_facts id k f).1 e));
    }

    pub at-start : (NoDs tale (suc n) ⊎ Alive tale sd n) → At tale sd (Early r) (suc n)
    unfolding alive-start
    at-start life =
        let used = or_map life (λ d. d) (λ a. (
          a.0,
          λ set. used-some sd set (key_at tale n a.0) a.1,
          λ set. used-some sd set (key_at tale (suc n) a.0) (alive-start a).1,
          a.2,
        )) in
        moved s.mapped (Early r) own refl (λ q d. d) (λ id k e. (facts id k e).fit)
        (suc n, based_here s.mark, early-starts (side tale sd) n here used h.holds)
        (λ phase. leads-start life)

  -- the first wait
  module _ (w : Waits tale n First r) (h : At tale sd (Early r) n) where
    facts1 : (id : Id) (k : Key) → key_at tale n id ≡ Some k → Waited1 sd r k.keytype
    facts1 id k e = wait1_facts sd r k.keytype own (fits_at h id k e)

    pub lasts-wait1 : Left tale sd (Early r) n → Lasts tale sd (Late r) (suc n)
    lasts-wait1 left =
        let l = on_to w.mapped (λ _. remains sd r) (λ _. live sd)
        (λ id k e. (facts1 id k e).some) left in (
          (
            l.0,
            some_weaker (live sd) (in_use sd) (λ k e. (and_parts _ _ e).0)
                (key_at tale (suc n) l.0) l.1,
            l.2,
          ),
          l,
        )

    first_less : (id : Id) → In (first_set r) (suc n) id → In (first_set r) n id
    first_less id = came w.mapped id (is_in sd (first_set r)) (is_in sd (first_set r))
        (λ k e. (facts1 id k e).first)

    -- the keys that a switch may go on with
    witness : switches sd r ≡ true → (NoDs tale n → NewAt tale sd r n)
        → NoDs tale (suc n) ⊎ Witness (side tale sd) r (suc n) (suc n)
    witness sw new = elim (h.holds.2.old) [
      | inl d ↦ or_map (new d) (λ d. d) (λ l. let a = (lasts-wait1 l.0).0 in (
        a.0,
        used-some sd (first_set r) (key_at tale (suc n) a.0) a.1,
        λ q lt un. l.1 a.0 q (omega arith) (λ x. un (still q x)),
        a.2,
      ))
      | inr a ↦ inr (
        a.0,
        goes w.mapped a.0 (is_in sd (first_set r)) (is_in sd (first_set r))
            (λ k e. (facts1 a.0 k e).keep sw) (a.2 (first_set r)),
        λ q lt un. a.1 (second_set r) q (omega arith) (λ x. un (still q x)),
        a.3,
      )
    ]
      where
        still : (q : ℕ) → IsGone tale.es (kind_on sd (second_set r)) q n
            → IsGone tale.es (kind_on sd (second_set r)) q (suc n)
        still q = retired_stays tale.es (kind_on sd (second_set r)) q n

    module _ (gone : Retired tale.es n r false) where
      wait1_sets : (on : Bool) → switches sd r ≡ on
          → retires r on (kind_on sd (second_set r)) ≡ true
          → (switches sd r ≡ true → NoDs tale n → NewAt tale sd r n)
          → LateOf tale sd r (suc n) (suc n) on
      wait1_sets true sw second new = early-switches (side tale sd) n here r h.holds.0
          (gone (kind_on sd (first_set r)) (first-retires sd r own) h.holds.0 h.holds.1.1)
          first_less (witness sw (new sw)) h.holds.2
      wait1_sets false sw second new = early-rests (side tale sd) n here r h.holds.0
          (gone (kind_on sd (first_set r)) (first-retires sd r own) h.holds.0 h.holds.1.1)
          (gone (kind_on sd (second_set r)) second h.holds.0 h.holds.1.1) first_less
          (λ id. came w.mapped id (is_in sd (second_set r)) (is_in sd (second_set r))
          (λ k e. (facts1 id k e).second (ap not sw))) h.holds.2

      pub at-wait1 : (switches sd r ≡ true → NoDs tale n → NewAt tale sd r n)
          → At tale sd (Late r) (suc n)
      at-wait1 new =
          let sets = wait1_sets (switches sd r) refl (second-retires sd r own) new in
          moved w.mapped (Late r) own refl (λ q d. d) (λ id k e. (facts1 id k e).fit)
          (suc n, based_here w.mark, sets) tt

  -- the second wait
  module _ (w : Waits tale n Second r) (h : At tale sd (Late r) n) where
    facts2 : (id : Id) (k : Key) → key_at tale n id ≡ Some k → Waited2 sd r k.keytype
    facts2 id k e = wait2_facts sd r k.keytype own (fits_at h id k e)

    less2 : (set : SideSet) (id : Id) → In set (suc n) id → In set n id
    less2 set id = came w.mapped id (is_in sd set) (is_in sd set) (λ k e. (facts2 id k e).less set)

    module _ (gone : switches sd r ≡ true → Retired tale.es n r true) where
      wait2_sets : (on : Bool) → switches sd r ≡ on
          → retires r on (kind_on sd (second_set r)) ≡ true
          → LateOf tale sd r n h.holds.0 on → Rest (side tale sd) (suc n)
      wait2_sets true sw second sets = late-closes (side tale sd) n here r h.holds.0
          (gone sw (kind_on sd (second_set r)) second h.holds.0 h.holds.1.1) less2 sets
      wait2_sets false sw second sets = rest-shrinks (side tale sd) n here less2 sets

      pub at-wait2 : At tale sd Quiet (suc n)
      at-wait2 = moved w.mapped Quiet refl refl (λ q d. refl) (λ id k e. (facts2 id k e).fit)
          (wait2_sets (switches sd r) refl (second-retires sd r own) h.holds.2) tt

    pub lasts-wait2 : Left tale sd (Late r) n → Lasts tale sd Quiet (suc n)
    lasts-wait2 left =
        (on_to w.mapped (λ _. live sd) (λ _. in_use sd) (λ id k e. (facts2 id k e).used) left, tt)

  -- an early end
  module _ (m : Mapped tale n (early_end_key tale r n) r None) (b : LeadsBack tale sd r n) where
    pub at-early-end : At tale sd Quiet (suc n)
    at-early-end = moved m Quiet refl refl (λ q d. refl)
        (λ id k e. of_found (λ k. flags_fit sd Quiet (kind_back tale r n id.0 k)) _ k e
        (b.flags id))
        (λ set. cached-on (side tale sd) n here set (StaysIn tale sd r n set) (In set (suc n))
        (λ id. came m id (λ k. is_in sd set (kind_back tale r n id.0 k)) (is_in sd set)
        (λ k a e. e)) (shows tale sd set (suc n) here) (b.rest set)) tt

    pub alive-early-end : (NoDs tale n → ⊥) → Alive tale sd (suc n)
    alive-early-end born = elim (b.used) [
      | inl d ↦ absurd (born d)
      | inr a ↦ on_to m (λ id k. in_use sd (kind_back tale r n id.0 k)) (λ _. in_use sd)
          (λ id k f e. e) a
    ]
