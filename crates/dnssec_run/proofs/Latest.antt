-- The greatest moment of the calls up to each one, as a record goes on: for `Moments`, and for what
-- is noted of a record.
use Rattle.std.proofs.Common.{◌≡◌, ℕ, zero, suc, ◌<◌, ◌≤◌, inl, inr, refl, sym, ◌∙◌, ap, subst}
use Rattle.std.proofs.Common.{arith, List, [], ◌∷◌, ◌++◌, length, Some, length-append}
use Rattle.std.proofs.Common.{append-nil, append_assoc}
use Rattle.std.proofs.lemmas.{Option.same_Some, Option.slice_get_within, Bool.cases_lt}
use Rattle.std.specs.{Prelude.max, Prelude.slice_get, Prelude.unwrap_or, Option.option_map_or}
use Rattle.dnssec_run.specs.Moments.{latest_of, moment_of_call, moments_of, times_up_to}
use Rattle.dnssec_run.specs.Safe.{blank, position_at, position_of, time_at}
use Rattle.dnssec_run.specs.declared.record.Entry.{Entry}
use Rattle.dnssec_run.proofs.Grow.{at_end, front}

-- ---- more calls leave the times of those before them

time-front : (es fs : List Entry) (n : ℕ) → n ≤ length es → time_at (es ++ fs) n ≡ time_at es n
unfolding time_at position_at
time-front es fs zero le = refl
time-front es fs (suc n) le =
    let before = time-front es fs n (omega (arith, le)) in
    let here = front es fs n le in
    λ i. max (before i) (unwrap_or (option_map_or position_of (here i) blank).moment 0)

times-front : (es fs : List Entry) (n : ℕ) → n ≤ length es
    → times_up_to (es ++ fs) n ≡ times_up_to es n
times-front es fs zero le = refl
times-front es fs (suc n) le =
    let before = times-front es fs n (omega (arith, le)) in
    let here = time-front es fs (suc n) le in
    λ i. before i ++ here i ∷ []

times-rest : (es : List Entry) (n m : ℕ) → n ≤ m
    → (rest : List ℕ) × (times_up_to es m ≡ times_up_to es n ++ rest)
times-rest es n zero le =
    let none : n ≡ 0 = omega (arith, le) in
    rw none ([], refl)
times-rest es n (suc m) le = elim (cases_lt n (suc m)) [
  | inl lt ↦
      let before = times-rest es n m (omega (arith, lt)) in (
        before.0 ++ time_at es (suc m) ∷ [],
        ap (λ ts. ts ++ time_at es (suc m) ∷ []) before.1
            ∙ append_assoc (times_up_to es n) before.0 (time_at es (suc m) ∷ []),
      )
  | inr ge ↦
      let same : suc m ≡ n = omega (arith, le, ge) in
      ([], ap (times_up_to es) same ∙ sym (append-nil (times_up_to es n)))
]

pub moments-outlast : (es fs : List Entry)
    → (rest : List ℕ) × (moments_of (es ++ fs) ≡ moments_of es ++ rest)
moments-outlast es fs =
    let more = length-append es fs in
    let on = times-rest (es ++ fs) (length es) (length (es ++ fs)) (omega (arith, more)) in
    (on.0, on.1 ∙ ap (λ ts. ts ++ on.0) (times-front es fs (length es) (omega arith)))

-- ---- one more call

-- the last moment is that of the last call
pub moments-add : (es : List Entry) (e : Entry)
    → moments_of (es ++ e ∷ []) ≡ moments_of es ++ latest_of (es ++ e ∷ []) ∷ []
moments-add es e =
    let count : length (es ++ e ∷ []) ≡ suc (length es) =
    omega (arith, length-append es (e ∷ [])) in
    let before = times-front es (e ∷ []) (length es) (omega arith) in
    ap (times_up_to (es ++ e ∷ [])) count
    ∙ (λ i. before i ++ time_at (es ++ e ∷ []) (sym count i) ∷ [])

-- which is its own, or that of those before it
pub latest-more : (es : List Entry) (e : Entry)
    → latest_of (es ++ e ∷ []) ≡ max (latest_of es) (unwrap_or e.moment 0)
unfolding time_at position_at
latest-more es e =
    let count : length (es ++ e ∷ []) ≡ suc (length es) =
    omega (arith, length-append es (e ∷ [])) in
    let time = time-front es (e ∷ []) (length es) (omega arith) in
    let here = at_end es e in
    ap (time_at (es ++ e ∷ [])) count
    ∙ (λ i. max (time i) (unwrap_or (option_map_or position_of (here i) blank).moment 0))

-- ---- the time at a call

times-count : (es : List Entry) (n : ℕ) → length (times_up_to es n) ≡ n
times-count es zero = refl
times-count es (suc n) =
    omega (arith, times-count es n, length-append (times_up_to es n) (time_at es (suc n) ∷ []))

pub moments-count : (es : List Entry) → length (moments_of es) ≡ length es
moments-count es = times-count es (length es)

times-at : (es : List Entry) (n k : ℕ) → k < n
    → slice_get (times_up_to es n) k ≡ Some (time_at es (suc k))
times-at es zero k lt = absurd (omega (arith, lt))
times-at es (suc n) k lt =
    let count = times-count es n in
    elim (cases_lt k n) [
      | inl less ↦
          front (times_up_to es n) (time_at es (suc n) ∷ []) k (omega (arith, count, less))
          ∙ times-at es n k less
      | inr ge ↦
          let same : n ≡ k = omega (arith, lt, ge) in
          subst (λ k. slice_get (times_up_to es n ++ time_at es (suc n) ∷ []) k
          ≡ Some (time_at es (suc k))) same
          (subst (λ k. slice_get (times_up_to es n ++ time_at es (suc n) ∷ []) k
          ≡ Some (time_at es (suc n))) count (at_end (times_up_to es n) (time_at es (suc n))))
    ]

-- the moment of a call is the time at its position
pub moment-is : (es : List Entry) (n moment : ℕ) → moment_of_call (moments_of es) n ≡ Some moment
    → (moment ≡ time_at es n) × (n ≤ length es)
moment-is es zero moment is = absurd cc
moment-is es (suc n) moment is =
    let within = slice_get_within (moments_of es) n moment is in
    let count = times-count es (length es) in
    let lt : n < length es = omega (arith, within, count) in
    (same_Some moment (time_at es (suc n)) (sym is ∙ times-at es (length es) n lt), lt)

-- the greatest moment so far
pub latest-is : (es : List Entry)
    → unwrap_or (moment_of_call (moments_of es) (length es)) 0 ≡ latest_of es
unfolding time_at
latest-is es = by (length es) (omega arith)
  where
    by : (n : ℕ) → n ≤ length es
        → unwrap_or (moment_of_call (moments_of es) n) 0 ≡ time_at es n
    by zero le = refl
    by (suc n) le = ap (λ o. unwrap_or o 0) (times-at es (length es) n le)
