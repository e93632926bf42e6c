-- A lag for each call: what it costs from one call to another. And how long phases last.
use Rattle.std.proofs.Common.{◌≡◌, ℕ, zero, suc, ◌+◌, ◌*◌, ◌<◌, ◌≤◌, inl, inr, sym, ap, ◌∙◌, arith}
use Rattle.std.{proofs.lemmas.Bool.cases_lt, specs.Prelude.◌-◌}
use Rattle.dnssec_key.specs.declared.roll.RollState.{RollState}
use Rattle.dnssec_key.specs.declared.roll.RollState.TheVariants.{Propagation1, CacheExpire1}
use Rattle.dnssec_key.specs.declared.roll.RollState.TheVariants.{Propagation2, CacheExpire2, Done}
use Rattle.dnssec_key.specs.declared.roll.Half.{Half, TheVariants.First, TheVariants.Second}
use Rattle.dnssec_policy.specs.Delays.{Delays}

-- what no step makes less
pub climbs : (f : ℕ → ℕ) (m n : ℕ) → ((k : ℕ) → m ≤ k → k < n → f k ≤ f (suc k)) → m ≤ n
    → f m ≤ f n
climbs f m zero next le = let e : m ≡ zero = omega (arith, le) in rw e (omega arith)
climbs f m (suc n) next le = elim (cases_lt m (suc n)) [
  | inl lt ↦
      let before = climbs f m n (λ k low up. next k low (omega (arith, up))) (omega (arith, lt)) in
      omega (arith, before, next n (omega (arith, lt)) (omega arith))
  | inr ge ↦ let e : m ≡ suc n = omega (arith, le, ge) in rw e (omega arith)
]

pub costs-grow : (cost : ℕ → ℕ) (lag from : ℕ)
    → ((n : ℕ) → from ≤ n → cost (suc n) ≡ cost n + lag) → (m n : ℕ) → from ≤ m → m ≤ n
    → cost m ≤ cost n
costs-grow cost lag from more m n later = climbs cost m n (λ k low high.
    omega (arith, more k (omega (arith, later, low))))

pub none-by : (lag n : ℕ) → lag * (n - n) ≡ 0
none-by lag n = let none : n - n ≡ 0 = omega arith in ap (λ k. lag * k) none ∙ omega arith

pub more-by : (lag m n : ℕ) → m ≤ n → lag * (suc n - m) ≡ lag * (n - m) + lag
more-by lag m n le =
    let one : suc n - m ≡ suc (n - m) = omega (arith, le) in
    ap (λ k. lag * k) one ∙ omega arith

-- from one call to a second and from there to a third
pub sum-by : (lag m s n : ℕ) → m ≤ s → s ≤ n
    → lag * (suc s - m) + lag * (n - s) ≡ lag * (suc n - m)
sum-by lag m s n low high =
    let both : lag * (suc s - m + (n - s)) ≡ lag * (suc s - m) + lag * (n - s) = omega arith in
    let one : suc s - m + (n - s) ≡ suc n - m = omega (arith, low, high) in
    sym both ∙ ap (λ k. lag * k) one

-- ---- the phases of a roll, without lags

module _ (delays : Delays) (wait : Half → ℕ) where
  -- the time from the start until a phase at the latest
  abbrev pub begins_by : RollState → ℕ
  begins_by Propagation1 = 0
  begins_by (CacheExpire1 t) = delays.start
  begins_by Propagation2 = delays.start + wait First * 1_000_000_000
  begins_by (CacheExpire2 t) = delays.start + wait First * 1_000_000_000 + delays.first
  begins_by Done = delays.start + wait First * 1_000_000_000 + delays.first
      + wait Second * 1_000_000_000

  -- and that which it takes
  abbrev pub lasts_by : RollState → ℕ
  lasts_by Propagation1 = delays.start
  lasts_by (CacheExpire1 t) = wait First * 1_000_000_000
  lasts_by Propagation2 = delays.first
  lasts_by (CacheExpire2 t) = wait Second * 1_000_000_000
  lasts_by Done = delays.second

  pub all-within : (whole : ℕ) → delays.start + delays.first + delays.second
      + (wait First + wait Second) * 1_000_000_000 ≡ whole
      → (p : RollState) → begins_by p + lasts_by p ≤ whole
  all-within whole is Propagation1 = omega (arith, is)
  all-within whole is (CacheExpire1 t) = omega (arith, is)
  all-within whole is Propagation2 = omega (arith, is)
  all-within whole is (CacheExpire2 t) = omega (arith, is)
  all-within whole is Done = omega (arith, is)
