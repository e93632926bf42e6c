-- What each roll keeps of a side, what it gives, and the calls that leave a side alone.
use Rattle.dnssec_run.proofs.Chain.Flags.{SideSet, first_set, second_set, is_in, in_use, used_in}
use Rattle.dnssec_run.proofs.Chain.Flags.{live, remains, switches}
use Rattle.dnssec_run.proofs.Chain.Tale.{Passes, key_at, Tale, Key, if_some, world_at}
use Rattle.dnssec_run.proofs.Chain.Side.{Rest, Early as EarlySets, Late as LateSets, Settles}
use Rattle.dnssec_run.proofs.Chain.Side.{Alive as AliveSide, rest-serves, early-serves, late-serves}
use Rattle.dnssec_run.proofs.Chain.Side.{early-stays, late-stays, rest-shrinks}
use Rattle.dnssec_run.proofs.Chain.Facts.{Seen, test-seen, use-seen, live-seen, remains-seen}
use Rattle.dnssec_run.proofs.Chain.Rolls.{StageFits, stage_own}
use Rattle.dnssec_run.proofs.Chain.History.{Serving, Without, base_same}
use Rattle.dnssec_run.proofs.Chain.Places.{Fits, side, NoDs, some_weaker}
use Rattle.dnssec_run.proofs.Chain.Same.{AlikeOn, alike-on-round, some-was, fits-still}
use Rattle.dnssec_run.proofs.Chain.Returns.{Back, KeepsLists, leads-on}
use Rattle.dnssec_run.specs.Safe.{position_at, base_below, is_step}
use Rattle.dnssec_run.specs.{declared.record.Entry.Entry, Published.Id}
use Rattle.std.proofs.Common.{◌≡◌, ℕ, suc, ◌≤◌, Bool, true, false, sym, ◌∙◌, arith, List, inl}
use Rattle.std.proofs.Common.{length, Option, Some}
use Rattle.std.proofs.lemmas.{Bool.true≢false, Option.same_Some}
use Rattle.dnssec_key.specs.declared.roll.RollType.{RollType, TheVariants.KskDoubleDsRoll}
use Rattle.dnssec_key.specs.declared.kind.KeyType.{KeyType}
use Rattle.dnssec_zone.proofs.Flags.{SideOf, Keys, Zone, affects, Stage, Quiet, Early, Late}
use Rattle.dnssec_zone.proofs.Flags.{flags_fit}

-- the base of a roll in progress
abbrev pub Based : List Entry → RollType → ℕ → ℕ → Type 0
Based es r n b = (b ≤ n) × (base_below es r (suc n) ≡ Some b)

-- whether or not the second set changed at the first wait
abbrev pub LateOf : Tale → SideOf → RollType → ℕ → ℕ → Bool → Type 0
LateOf tale sd r n b true = LateSets (side tale sd) r n b
LateOf tale sd r n b false = Rest (side tale sd) n

abbrev pub Holds : Tale → SideOf → Stage → ℕ → Type 0
Holds tale sd Quiet n = Rest (side tale sd) n
Holds tale sd (Early r) n = (b : ℕ) × Based tale.es r n b × EarlySets (side tale sd) n b
Holds tale sd (Late r) n = (b : ℕ) × Based tale.es r n b × LateOf tale sd r n b (switches sd r)

-- a key of the family that passes
abbrev pub Has : Tale → (KeyType → Bool) → ℕ → Type 0
Has tale p n = (id : Id) × (Passes tale p n id) × (tale.of id ≡ true)

-- none does
abbrev pub HasNo : Tale → (KeyType → Bool) → ℕ → Type 0
HasNo tale p n = (id : Id) → tale.of id ≡ true → Passes tale p n id → ⊥

-- a key that will be in use
abbrev pub Left : Tale → SideOf → Stage → ℕ → Type 0
Left tale sd Quiet n = Unit {0}
Left tale sd (Early r) n = Has tale (remains sd r) n
Left tale sd (Late r) n = Has tale (live sd) n

-- a key in use
abbrev pub Alive : Tale → SideOf → ℕ → Type 0
Alive tale sd n = Has tale (in_use sd) n

-- the family stays: a key is in use, and one will be
abbrev pub Lasts : Tale → SideOf → Stage → ℕ → Type 0
Lasts tale sd st n = Alive tale sd n × Left tale sd st n

pub record At (tale : Tale) (sd : SideOf) (st : Stage) (n : ℕ) : Type 0 where
  pub own : stage_own sd st ≡ true
  pub rolls : (q : RollType) → affects sd q ≡ true → StageFits st q ((world_at tale n).roll q)
  pub flags : (id : Id) → Fits tale (flags_fit sd st) n id
  pub holds : Holds tale sd st n
  pub back : Back tale sd st n

-- ---- what it gives

-- a key in use is in both sets
pub used-some : (sd : SideOf) (set : SideSet) (o : Option Key) → if_some (in_use sd) o ≡ true
    → if_some (is_in sd set) o ≡ true
used-some sd set = some_weaker (in_use sd) (is_in sd set) (used_in sd set)

module _ (tale : Tale) (n : ℕ) where
  alive_side : (sd : SideOf) → Alive tale sd n → AliveSide (side tale sd) n
  alive_side sd a = (a.0, λ set. used-some sd set (key_at tale n a.0) a.1, a.2)

  late_settles : (sd : SideOf) (r : RollType) (b : ℕ) (w : Bool) → Alive tale sd n
      → LateOf tale sd r n b w → Settles (side tale sd) n
  late_settles sd r b true a h = let x = alive_side sd a in late-serves (side tale sd) r n b
      (λ _. (x.0, x.1 (first_set r), λ q ge le. h.second q le ge x.0 (x.1 (second_set r)), x.2)) h
  late_settles sd r b false a h = rest-serves (side tale sd) n (alive_side sd a) h

  pub at-settles : (sd : SideOf) (st : Stage) → Alive tale sd n → At tale sd st n
      → Settles (side tale sd) n
  at-settles sd Quiet a h = rest-serves (side tale sd) n (alive_side sd a) h.holds
  at-settles sd (Early r) a h = early-serves (side tale sd) n h.holds.0 h.holds.2
  at-settles sd (Late r) a h = late_settles sd r h.holds.0 (switches sd r) a h.holds.2

  -- a DS set without the family serves for any key
  bare_serves : (r : RollType) → affects Zone r ≡ true → (q : ℕ) (k : Id) → Without tale q
      → Serving tale Keys (second_set r) q k
  bare_serves KskDoubleDsRoll own q k none = absurd (true≢false (sym own))
  bare_serves _ own q k none = inl none

  -- a family that leaves: from the first wait on the DS sets have none of it
  pub leaving-settles : (r : RollType) (b : ℕ) → affects Zone r ≡ true
      → base_below tale.es r (suc n) ≡ Some b → ((q : ℕ) → b ≤ q → q ≤ n → Without tale q)
      → At tale Keys (Late r) n → Settles (side tale Keys) n
  leaving-settles r b own base bare h =
      let same : b ≡ h.holds.0 = same_Some _ _ (sym base ∙ h.holds.1.1) in
      late-serves (side tale Keys) r n h.holds.0 (λ w. (
        w.0,
        w.1,
        λ q ge le. bare_serves r own q w.0 (bare q (omega (arith, same, ge)) le),
        w.3,
      )) h.holds.2

-- ---- a call that leaves a side alone

pub record Gentle (tale : Tale) (sd : SideOf) (st : Stage) (n : ℕ) : Type 0 where
  pub rolls : (q : RollType) → affects sd q ≡ true → StageFits st q ((world_at tale (suc n)).roll q)
  pub keys : (id : Id) → AlikeOn sd (key_at tale n id) (key_at tale (suc n) id)
  pub no_step : (q : RollType) → affects sd q ≡ true → is_step q (position_at tale.es (suc n)).mark
      ≡ false
  pub dead : NoDs tale n → NoDs tale (suc n)
  pub lists : KeepsLists tale sd n

module _ (tale : Tale) (n : ℕ) (here : suc n ≤ length tale.es) (sd : SideOf) where
  -- what passes a test of seen keys after it did before, and the other way round
  pub was-gentle : (st : Stage) (p : KeyType → Bool) → Seen sd p → Gentle tale sd st n → (id : Id)
      → Passes tale p (suc n) id → Passes tale p n id
  was-gentle st p seen g id = some-was sd p seen (key_at tale n id)
      (key_at tale (suc n) id) (g.keys id)

  on_gentle : (st : Stage) (p : KeyType → Bool) → Seen sd p → Gentle tale sd st n → (id : Id)
      → Passes tale p n id → Passes tale p (suc n) id
  on_gentle st p seen g id = some-was sd p seen (key_at tale (suc n) id) (key_at tale n id)
      (alike-on-round sd (key_at tale n id) (key_at tale (suc n) id) (g.keys id))

  pub has-gentle : (st : Stage) (p : KeyType → Bool) → Seen sd p → Gentle tale sd st n
      → Has tale p n → Has tale p (suc n)
  has-gentle st p seen g h = (h.0, on_gentle st p seen g h.0 h.1, h.2)

  pub has_no-gentle : (st : Stage) (p : KeyType → Bool) → Seen sd p → Gentle tale sd st n
      → HasNo tale p n → HasNo tale p (suc n)
  has_no-gentle st p seen g h id o e = h id o (was-gentle st p seen g id e)

  module _ (st : Stage) (g : Gentle tale sd st n) where
    on : (p : KeyType → Bool) → Seen sd p → Has tale p n → Has tale p (suc n)
    on p seen = has-gentle st p seen g

    left : (st : Stage) → Left tale sd st n → Left tale sd st (suc n)
    left Quiet h = tt
    left (Early r) h = on (remains sd r) (remains-seen sd r) h
    left (Late r) h = on (live sd) (live-seen sd) h

    pub lasts-gentle : Lasts tale sd st n → Lasts tale sd st (suc n)
    lasts-gentle h = (on (in_use sd) (use-seen sd) h.0, left st h.1)

    less : (set : SideSet) (id : Id) → Passes tale (is_in sd set) (suc n) id
        → Passes tale (is_in sd set) n id
    less set = was-gentle st (is_in sd set) (test-seen sd set) g

    more : (set : SideSet) (id : Id) → Passes tale (is_in sd set) n id
        → Passes tale (is_in sd set) (suc n) id
    more set = on_gentle st (is_in sd set) (test-seen sd set) g

    late : (r : RollType) (b : ℕ) (w : Bool) → LateOf tale sd r n b w → LateOf tale sd r (suc n) b w
    late r b true h = late-stays (side tale sd) n here r b g.dead (more (first_set r)) less h
    late r b false h = rest-shrinks (side tale sd) n here less h

    based : (r : RollType) (b : ℕ) → affects sd r ≡ true → Based tale.es r n b
        → Based tale.es r (suc n) b
    based r b own h = (omega (arith, h.0), base_same tale.es r (suc n) (g.no_step r own) ∙ h.1)

    holds : (st : Stage) → stage_own sd st ≡ true → Holds tale sd st n → Holds tale sd st (suc n)
    holds Quiet own h = rest-shrinks (side tale sd) n here less h
    holds (Early r) own h =
        (h.0, based r h.0 own h.1, early-stays (side tale sd) n here h.0 g.dead more less h.2)
    holds (Late r) own h = (h.0, based r h.0 own h.1, late r h.0 (switches sd r) h.2)

    back : (st : Stage) → stage_own sd st ≡ true → Back tale sd st n → Back tale sd st (suc n)
    back (Early r) own h = λ phase. leads-on tale n here sd g.keys g.dead g.lists r own
        phase (h (g.lists.phase r own phase))
    back _ own h = tt

    pub at-gentle : At tale sd st n → At tale sd st (suc n)
    at-gentle h = record {
      own = h.own;
      rolls = g.rolls;
      flags = λ id. fits-still sd st (key_at tale n id) (key_at tale (suc n) id) (g.keys id)
          (h.flags id);
      holds = holds st h.own h.holds;
      back = back st h.own h.back;
    }
