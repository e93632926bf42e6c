-- A set is the same from its origin on.
use Rattle.std.proofs.Common.{◌≡◌, ℕ, zero, suc, ◌≤◌, Bool, true, false, refl, sym, ◌∙◌, ap, arith}
use Rattle.std.proofs.Common.{List, Option, None, Some, [], ◌∷◌, inl, inr}
use Rattle.std.proofs.lemmas.Bool.{cases_lt, true≢false}
use Rattle.std.proofs.lemmas.Bool.Decides.{Decides-and, Decides-eqb, Decides-like}
use Rattle.std.proofs.lemmas.Slice.Eq.{bytes_eq-Decides}
use Rattle.std.specs.Bool.{Decides}
use Rattle.std.specs.Option.{option_map}
use Rattle.std.specs.Prelude.{if◌then◌else◌, slice_get}
use Rattle.dnssec_key.specs.declared.roll.RollType.{RollType}
use Rattle.dnssec_run.specs.declared.{record.Entry.Entry, running.LastStep.LastStep}
use Rattle.dnssec_run.specs.{declared.running.Steps.Steps, Steps.Origins}
use Rattle.dnssec_run.specs.Origins.{CachedSet, origin, same_id, same_ids, same_set, set_at}
use Rattle.dnssec_run.specs.Origins.{set_in}
use Rattle.dnssec_run.specs.Published.{Id}
use Rattle.dnssec_run.specs.Safe.{SetKind, base_below, position_at, Ds, Dnskey, ZoneSigners}
use Rattle.dnssec_run.specs.Steps.{base_of, last_step, origin_in, origins_at, step_at, step_of}

-- ---- tests

-- two keys are the same
pub same-id : (a b : Id) → Decides (same_id a b) (a ≡ b)
same-id a b =
    Decides-like _ (λ h i. (h.1 i, h.0 i)) (λ e. ((λ i. (e i).1), (λ i. (e i).0)))
    (Decides-and _ _ (Decides-eqb a.1 b.1) (bytes_eq-Decides a.0 b.0))

-- two lists
pub same-ids : (one other : List Id) → Decides (same_ids one other) (one ≡ other)
same-ids [] [] = (λ e. refl, λ e. refl)
same-ids [] (b ∷ others) = (λ e. absurd (true≢false (sym e)), λ e. absurd (cc))
same-ids (a ∷ rest) [] = (λ e. absurd (true≢false (sym e)), λ e. absurd (cc))
same-ids (a ∷ rest) (b ∷ others) =
    Decides-like _ (λ h i. h.0 i ∷ h.1 i) (λ e. (cc, cc))
    (Decides-and _ _ (same-id a b) (same-ids rest others))

-- two sets
pub same-set : (p q : CachedSet) → Decides (same_set p q) (p ≡ q)
same-set p q =
    Decides-like _ (λ h i. (h.0 i, h.1 i)) (λ e. ((λ i. (e i).0), (λ i. (e i).1)))
    (Decides-and _ _ (same-ids p.0 q.0) (same-ids p.1 q.1))

-- ---- the set of a position

-- position 0 has none
pub set-none : (entries : List Entry) (kind : SetKind) (n : ℕ) → n ≡ 0
    → ([], []) ≡ set_at kind (position_at entries n)
unfolding position_at
set-none entries Ds n is = rw is refl
set-none entries Dnskey n is = rw is refl
set-none entries ZoneSigners n is = rw is refl

-- nor has one past the end
pub set-past : (entries : List Entry) (kind : SetKind) (n i : ℕ) → n ≡ suc i
    → slice_get entries i ≡ None → ([], []) ≡ set_at kind (position_at entries n)
unfolding position_at
set-past entries Ds n i is past = rw (is, past) refl
set-past entries Dnskey n i is past = rw (is, past) refl
set-past entries ZoneSigners n i is past = rw (is, past) refl

-- the others have that of their entry
pub set-of : (entries : List Entry) (kind : SetKind) (n i : ℕ) (entry : Entry) → n ≡ suc i
    → slice_get entries i ≡ Some entry
    → set_in kind entry.published ≡ set_at kind (position_at entries n)
unfolding position_at
set-of entries Ds n i entry is there = rw (is, there) refl
set-of entries Dnskey n i entry is there = rw (is, there) refl
set-of entries ZoneSigners n i entry is there = rw (is, there) refl

-- ---- origins

pub origin-le : (entries : List Entry) (kind : SetKind) (n : ℕ) → origin entries kind n ≤ n
unfolding origin
origin-le entries kind zero = omega arith
origin-le entries kind (suc n) = grind (arith, origin-le entries kind n)

-- from its origin on the set is the same
pub origin-same : (entries : List Entry) (kind : SetKind) (n q : ℕ) → origin entries kind n ≤ q
    → q ≤ n → set_at kind (position_at entries q) ≡ set_at kind (position_at entries n)
unfolding origin
origin-same entries kind zero q from le =
    let e : q ≡ zero = omega (arith, le) in ap (λ n. set_at kind (position_at entries n)) e
origin-same entries kind (suc n) q from le =
    by (origin-same entries kind n)
    (same_set (set_at kind (position_at entries n)) (set_at kind (position_at entries (suc n))))
    refl from
  where
    here : q ≡ suc n → set_at kind (position_at entries q)
        ≡ set_at kind (position_at entries (suc n))
    here e = ap (λ n. set_at kind (position_at entries n)) e

    by : ((p : ℕ) → origin entries kind n ≤ p → p ≤ n
        → set_at kind (position_at entries p) ≡ set_at kind (position_at entries n))
        → (b : Bool) → same_set (set_at kind (position_at entries n))
        (set_at kind (position_at entries (suc n))) ≡ b
        → (if b then origin entries kind n else suc n) ≤ q
        → set_at kind (position_at entries q) ≡ set_at kind (position_at entries (suc n))
    by earlier true e from = elim (cases_lt q (suc n)) [
      | inl lt ↦ earlier q from (omega (arith, lt))
          ∙ (same-set (set_at kind (position_at entries n))
          (set_at kind (position_at entries (suc n)))).0 e
      | inr more ↦ here (omega (arith, more, le))
    ]
    by earlier false e from = here (omega (arith, from, le))

-- two records that are the same up to a position
pub origin-kept : (a b : List Entry) (kind : SetKind) (m : ℕ)
    → ((q : ℕ) → q ≤ m → position_at a q ≡ position_at b q)
    → (n : ℕ) → n ≤ m → origin a kind n ≡ origin b kind n
unfolding origin
origin-kept a b kind m same zero le = refl
origin-kept a b kind m same (suc n) le =
    let now = same (suc n) le in
    let was = same n (omega (arith, le)) in
    let rest = origin-kept a b kind m same n (omega (arith, le)) in
    λ i. if same_set (set_at kind (was i)) (set_at kind (now i)) then rest i else suc n

-- ---- steps

-- the origin of each kind
pub origin-of : (entries : List Entry) (n : ℕ) (kind : SetKind)
    → origin_in (origins_at entries n) kind ≡ origin entries kind n
origin-of entries n Ds = refl
origin-of entries n Dnskey = refl
origin-of entries n ZoneSigners = refl

-- all kinds have the same origins
pub same-origins : (origins : Origins) (entries : List Entry) (n : ℕ)
    → ((kind : SetKind) → origin_in origins kind ≡ origin entries kind n)
    → origins ≡ origins_at entries n
same-origins origins entries n h =
    λ i. record { ds = h Ds i; dnskey = h Dnskey i; zone = h ZoneSigners i }

-- one of them is chosen, and then looked at
pub step-chosen : (b : Bool) (f : ℕ → LastStep) (at : ℕ) (below : Option ℕ)
    → (if b then Some (f at) else option_map f below)
    ≡ option_map f (if b then Some at else below)
step-chosen true f at below = refl
step-chosen false f at below = refl

-- the position of the last step that is kept
pub base-kept : (entries : List Entry) (steps : Steps) (roll : RollType) (n : ℕ)
    → step_of steps roll ≡ last_step entries roll n
    → base_of steps roll ≡ base_below entries roll n
base-kept entries steps roll n e =
    ap (option_map (λ (step : LastStep). step.at)) e ∙ by (base_below entries roll n)
  where
    by : (o : Option ℕ) → option_map (λ (step : LastStep). step.at)
        (option_map (step_at entries) o) ≡ o
    by None = refl
    by (Some n) = refl
