-- A record and one entry more: its positions, the greatest moment, and the last step of each roll.
use Rattle.std.proofs.Common.{◌≡◌, ℕ, zero, suc, ◌≤◌, refl, ap, arith, List, Option, Some, []}
use Rattle.std.proofs.Common.{◌∷◌, ◌++◌, ◌<◌, length, length-append, take}
use Rattle.std.proofs.lemmas.Option.{slice_get_past}
use Rattle.std.specs.Prelude.{if◌then◌else◌, max, slice_get, unwrap_or}
use Rattle.std.specs.Option.{option_map_or}
use Rattle.dnssec_key.specs.declared.roll.RollType.{RollType}
use Rattle.dnssec_run.specs.Safe.{SetKind, base_below, blank, is_step, position_at, position_of}
use Rattle.dnssec_run.specs.{Origins.origin, Origins.same_set, Origins.set_at, Safe.time_at}
use Rattle.dnssec_zone.proofs.Phases.{same_roll-eq}
use Rattle.dnssec_run.specs.declared.record.{Entry.Entry, Mark.Mark, Mark.TheVariants.Other}
use Rattle.dnssec_run.specs.declared.record.Mark.TheVariants.{Step, Report}
use Rattle.dnssec_run.specs.contracts.record.MarkPartialEq.TheImpl.{eq-value}
use Rattle.dnssec_run.proofs.{Grow.at_end, Grow.front, Since.origin-kept}

-- two records that are the same up to a position
module _ (a b : List Entry) (m : ℕ)
    (same : (q : ℕ) → q ≤ m → position_at a q ≡ position_at b q) where
  pub time-same : (n : ℕ) → n ≤ m → time_at a n ≡ time_at b n
  unfolding time_at
  time-same zero le = refl
  time-same (suc n) le = let h = time-same n (omega arith) in let p = same (suc n) le in
      λ i. max (h i) (unwrap_or (p i).moment 0)

  pub base-same : (roll : RollType) (n : ℕ) → n ≤ suc m → base_below a roll n ≡ base_below b roll n
  unfolding base_below
  base-same roll zero le = refl
  base-same roll (suc n) le = let h = base-same roll n (omega arith) in
      let p = same n (omega arith) in λ i. if is_step roll (p i).mark then Some n else h i

-- a record and one entry more
module _ (es : List Entry) (e : Entry) where
  abbrev pub more : List Entry
  more = es ++ e ∷ []

  pub count : length more ≡ suc (length es)
  count = omega (arith, length-append es (e ∷ []))

  pub position-kept : (q : ℕ) → q ≤ length es → position_at more q ≡ position_at es q
  unfolding position_at
  position-kept zero le = refl
  position-kept (suc q) le =
      ap (λ (o : Option Entry). option_map_or position_of o blank)
      (front es (e ∷ []) q (omega arith))

  pub position-new : position_at more (suc (length es)) ≡ position_of e
  unfolding position_at
  position-new = ap (λ (o : Option Entry). option_map_or position_of o blank) (at_end es e)

  pub time-new : time_at more (suc (length es))
      ≡ max (time_at es (length es)) (unwrap_or e.moment 0)
  unfolding time_at
  time-new = let h = time-same more es (length es) position-kept (length es) (omega arith) in
      let p = position-new in λ i. max (h i) (unwrap_or (p i).moment 0)

  pub base-new : (roll : RollType)
      → base_below more roll (suc (suc (length es)))
      ≡ (if is_step roll e.mark then Some (suc (length es)) else base_below es roll
      (suc (length es)))
  unfolding base_below
  base-new roll =
      let h = base-same more es (length es) position-kept roll (suc (length es)) (omega arith) in
      let p = position-new in
      λ i. if is_step roll (p i).mark then Some (suc (length es)) else h i

  pub origin-new : (kind : SetKind) → origin more kind (suc (length es))
      ≡ (if same_set (set_at kind (position_at es (length es))) (set_at kind (position_of e))
      then origin es kind (length es) else suc (length es))
  unfolding origin
  origin-new kind =
      let was = position-kept (length es) (omega arith) in
      let now = position-new in
      let rest = origin-kept more es kind (length es) position-kept (length es) (omega arith) in
      λ i. if same_set (set_at kind (was i)) (set_at kind (now i)) then rest i
      else suc (length es)

-- ---- the first entries of a record

within : {A : Type 0} (xs : List A) (n i : ℕ) → i < n → slice_get (take n xs) i ≡ slice_get xs i
within xs zero i lt = absurd (omega (arith, lt))
within [] (suc n) i lt = refl
within (x ∷ xs) (suc n) zero lt = refl
within (x ∷ xs) (suc n) (suc i) lt = within xs n i (omega (arith, lt))

pub front-at : (es : List Entry) (n m : ℕ) → m ≤ n → position_at (take n es) m ≡ position_at es m
unfolding position_at
front-at es n zero le = refl
front-at es n (suc m) le =
    ap (λ (o : Option Entry). option_map_or position_of o blank) (within es n m (omega (arith, le)))

pub past-end : (es : List Entry) (m : ℕ) → length es < m → blank ≡ position_at es m
unfolding position_at
past-end es zero lt = absurd (omega (arith, lt))
past-end es (suc m) lt = rw (slice_get_past es m (omega (arith, lt))) refl

-- the `==` of a step and a mark
pub steps : (roll : RollType) (m : Mark) → eq-value.it (Step roll) m ≡ is_step roll m
steps roll Other = refl
steps roll (Step other) = same_roll-eq roll other
steps roll (Report r s t) = refl
