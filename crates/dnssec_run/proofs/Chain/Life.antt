-- How a family of keys fares: it stays on both sides, leaves, or isn't there. Calls that leave both
-- sides alone keep that.
use Rattle.std.proofs.Common.{◌≡◌, ℕ, suc, ◌<◌, ◌≤◌, ◌⊎◌, inl, inr, Bool, true, false, ◌∙◌, arith}
use Rattle.std.proofs.Common.{length}
use Rattle.std.proofs.lemmas.Bool.{or_right}
use Rattle.dnssec_key.specs.declared.roll.RollType.{RollType, TheVariants.AlgorithmRoll}
use Rattle.dnssec_key.specs.declared.kind.KeyType.{KeyType}
use Rattle.dnssec_run.specs.{ByAlgorithm.keeps_ksk, Published.Id, Published.in_ds}
use Rattle.dnssec_run.proofs.Premise.{DoesAt, first_wait_of, start_of}
use Rattle.dnssec_run.proofs.Chain.Flags.{Own, Shared, in_use, is_in, live, remains}
use Rattle.dnssec_run.proofs.Chain.Facts.{test-seen, use-seen, live-seen, remains-seen}
use Rattle.dnssec_run.proofs.Chain.Keeping.{engaged, engaged-seen, rest-keeps, live-keeps}
use Rattle.dnssec_run.proofs.Chain.Keeping.{before_first}
use Rattle.dnssec_run.proofs.Chain.Places.{Fits, NoDs, shown_at, without-next, some_of, some_weaker}
use Rattle.dnssec_run.proofs.Chain.Invariant.{At, Alive, Based, Gentle, Has, HasNo, Lasts, Left}
use Rattle.dnssec_run.proofs.Chain.Invariant.{has-gentle, has_no-gentle, lasts-gentle, was-gentle}
use Rattle.dnssec_run.proofs.Chain.{Tale.key_at, Tale.Tale, OneKey.Starts, Side.upto}
use Rattle.dnssec_run.proofs.Chain.History.{Without, base_same}
use Rattle.dnssec_zone.proofs.Flags.{SideOf, Keys, Zone, affects, Stage, Quiet, Early, Late}
use Rattle.dnssec_zone.proofs.Flags.{flags_fit}

-- ---- first waits of algorithm rolls

-- the call after position n ends the first wait of an algorithm roll
abbrev pub PassesAt : Tale → ℕ → Type 0
PassesAt tale n = DoesAt first_wait_of tale.calls tale.es n AlgorithmRoll

-- no algorithm roll is past its first wait
abbrev pub Unpassed : Tale → ℕ → Type 0
Unpassed tale n = (m : ℕ) → m < n → PassesAt tale m → ⊥

pub unpassed-next : (tale : Tale) (n : ℕ) → (PassesAt tale n → ⊥) → Unpassed tale n
    → Unpassed tale (suc n)
unpassed-next tale n none h m lt s = grind (arith, none, h)

-- ---- a family of keys

-- an algorithm roll before its first wait brings it in, on both sides
abbrev pub Comes : Tale → Stage → Stage → ℕ → Type 0
Comes tale ks zs n = (ks ≡ Early AlgorithmRoll) × (zs ≡ Early AlgorithmRoll)
    × Left tale Keys (Early AlgorithmRoll) n × Left tale Zone (Early AlgorithmRoll) n

-- It isn't in any DS set that caches may hold. It comes, or none of its keys is in a set on the
-- side of keys. If all keys are of it, no algorithm roll has yet passed its first wait.
abbrev pub Absent : Tale → Stage → Stage → ℕ → Type 0
Absent tale ks zs n = NoDs tale n × (tale.whole ≡ true → Unpassed tale n)
    × (HasNo tale engaged n ⊎ Comes tale ks zs n)

-- its keys on the side of keys are all old: until the first wait as before, from then on no DS set
-- has one
abbrev pub LeavesEarly : Tale → RollType → Stage → Stage → ℕ → Type 0
LeavesEarly tale r ks zs n = (ks ≡ Early r) × (zs ≡ Early r) × Alive tale Keys n
    × HasNo tale (remains Keys r) n × (Left tale Zone (Early r) n ⊎ (r ≡ AlgorithmRoll))

abbrev pub LeavesLate : Tale → RollType → Stage → Stage → ℕ → Type 0
LeavesLate tale r ks zs n = (ks ≡ Late r) × (zs ≡ Late r) × HasNo tale (live Keys) n
    × ((b : ℕ) × Based tale.es r n b × ((q : ℕ) → b ≤ q → q ≤ n → Without tale q))

-- it leaves by a roll of both sides; the zone is still signed by it
pub record Leaves (tale : Tale) (ks zs : Stage) (n : ℕ) : Type 0 where
  pub roll : RollType
  pub keys_own : affects Keys roll ≡ true
  pub zone_own : affects Zone roll ≡ true
  pub mixed : tale.whole ≡ false
  pub zone : Alive tale Zone n
  pub stage : LeavesEarly tale roll ks zs n ⊎ LeavesLate tale roll ks zs n

abbrev pub Life : Tale → Stage → Stage → ℕ → Type 0
Life tale ks zs n = (Lasts tale Keys ks n × Lasts tale Zone zs n)
    ⊎ (Leaves tale ks zs n ⊎ Absent tale ks zs n)

-- ---- what a family has

-- one that stays has a KSK role that stays
kept_by : (tale : Tale) (st : Stage) (n : ℕ) → At tale Keys st n → (p : KeyType → Bool)
    → ((k : KeyType) → flags_fit Keys st k ≡ true → p k ≡ true → keeps_ksk k ≡ true)
    → Has tale p n → Has tale keeps_ksk n
kept_by tale st n h p on k =
    (k.0, some_of (flags_fit Keys st) p keeps_ksk on (key_at tale n k.0) (h.flags k.0) k.1, k.2)

pub lasts-keeps : (tale : Tale) (st : Stage) (n : ℕ) → At tale Keys st n → Lasts tale Keys st n
    → Has tale keeps_ksk n
lasts-keeps tale Quiet n h a = kept_by tale Quiet n h (in_use Keys) rest-keeps a.0
lasts-keeps tale (Early r) n h a =
    kept_by tale (Early r) n h (remains Keys r) (λ k f. (before_first r k h.own f).kept) a.1
lasts-keeps tale (Late r) n h a = kept_by tale (Late r) n h (live Keys) (λ k f. live-keeps k) a.1

-- one of which no key is in a set isn't in the DS set
pub without-engaged : (tale : Tale) (n : ℕ) → suc n ≤ length tale.es → HasNo tale engaged (suc n)
    → Without tale (suc n)
without-engaged tale n here none id o c = none id o
    (some_weaker in_ds engaged (λ k. or_right (is_in Keys Shared k) (in_ds k))
    (key_at tale (suc n) id) (((shown_at tale (suc n) here).ds id).0 c))

-- ---- a start

-- On the side of keys none of the family will be in use. On that of the zone one will sign, or
-- those that sign go on until the second wait.
abbrev pub Fades : Tale → ℕ → RollType → Type 0
Fades tale n r = (affects Zone r ≡ true) × (tale.whole ≡ false) × HasNo tale (remains Keys r) n
    × (Left tale Zone (Early r) n ⊎ (r ≡ AlgorithmRoll))

-- What the start after position n makes of the family. One in use stays or leaves on the side of
-- keys. It stays on that of the zone, if it does on the other. One that isn't there stays away, or
-- an algorithm roll brings it in.
pub record Goes (tale : Tale) (n : ℕ) (r : RollType) : Type 0 where
  pub keys : affects Keys r ≡ true → Alive tale Keys n → Left tale Keys (Early r) (suc n)
      ⊎ Fades tale (suc n) r
  pub zone : affects Zone r ≡ true → Has tale keeps_ksk (suc n) → Left tale Zone (Early r) (suc n)
  pub absent : affects Keys r ≡ true → (tale.whole ≡ true → Unpassed tale n)
      → HasNo tale engaged n → HasNo tale engaged (suc n)
      ⊎ ((r ≡ AlgorithmRoll) × Left tale Keys (Early r) (suc n) × Left tale Zone (Early r) (suc n))

-- so each accepted start does
abbrev pub Law : Tale → Type 0
Law tale = (n : ℕ) → suc n ≤ length tale.es → (r : RollType) → Starts tale n r
    → DoesAt start_of tale.calls tale.es n r → ((sd : SideOf) → affects sd r ≡ true → (id : Id)
    → Fits tale (flags_fit sd Quiet) n id) → Goes tale n r

-- ---- calls that leave both sides alone

module _ (tale : Tale) (n : ℕ) (here : suc n ≤ length tale.es) (ks zs : Stage)
    (gk : Gentle tale Keys ks n) (gz : Gentle tale Zone zs n) (none : PassesAt tale n → ⊥) where
  early_on : (r : RollType) → LeavesEarly tale r ks zs n → LeavesEarly tale r ks zs (suc n)
  early_on r h = (
    h.0,
    h.1,
    has-gentle tale n here Keys ks (in_use Keys) (use-seen Keys) gk h.2,
    has_no-gentle tale n here Keys ks (remains Keys r) (remains-seen Keys r) gk h.3,
    elim (h.4) [
      | inl l ↦ inl (has-gentle tale n here Zone zs (remains Zone r) (remains-seen Zone r) gz l)
      | inr e ↦ inr e
    ],
  )

  late_on : (r : RollType) → affects Keys r ≡ true → LeavesLate tale r ks zs n
      → LeavesLate tale r ks zs (suc n)
  late_on r own h =
      let at = h.3 in
      let le : at.0 ≤ n = at.1.0 in (
        h.0,
        h.1,
        has_no-gentle tale n here Keys ks (live Keys) (live-seen Keys) gk h.2,
        (
          at.0,
          (omega (arith, le), base_same tale.es r (suc n) (gk.no_step r own) ∙ at.1.1),
          λ q ge le. upto (λ q. at.0 ≤ q → Without tale q) n (λ q le ge. at.2 q ge le)
              (λ _. without-next tale n here (was-gentle tale n here Keys ks in_ds
              (test-seen Keys Own) gk) (at.2 n at.1.0 (omega arith))) q le ge,
        ),
      )

  absent_on : Absent tale ks zs n → Absent tale ks zs (suc n)
  absent_on d = (
    gk.dead d.0,
    λ w. unpassed-next tale n none (d.1 w),
    elim (d.2) [
      | inl lacks ↦ inl (has_no-gentle tale n here Keys ks engaged engaged-seen gk lacks)
      | inr c ↦ inr (
        c.0,
        c.1,
        has-gentle tale n here Keys ks (remains Keys AlgorithmRoll)
            (remains-seen Keys AlgorithmRoll) gk c.2,
        has-gentle tale n here Zone zs (remains Zone AlgorithmRoll)
            (remains-seen Zone AlgorithmRoll) gz c.3,
      )
    ],
  )

  pub life-on : Life tale ks zs n → Life tale ks zs (suc n)
  life-on h = elim h [
    | inl a ↦ inl (lasts-gentle tale n here Keys ks gk a.0, lasts-gentle tale n here Zone zs gz a.1)
    | inr rest ↦ elim rest [
      | inl l ↦ inr (inl (record {
        roll = l.roll;
        keys_own = l.keys_own;
        zone_own = l.zone_own;
        mixed = l.mixed;
        zone = has-gentle tale n here Zone zs (in_use Zone) (use-seen Zone) gz l.zone;
        stage = elim (l.stage) [
          | inl e ↦ inl (early_on l.roll e)
          | inr e ↦ inr (late_on l.roll l.keys_own e)
        ];
      }))
      | inr d ↦ inr (inr (absent_on d))
    ]
  ]
