-- Decimals that are written until nothing is left are the digits without the zeros at the end.
use Rattle.std.proofs.Common.{◌≡◌, ℕ, zero, suc, ◌+◌, ◌*◌, ◌/◌, ◌%◌, ◌^◌, ◌<◌, ◌≤◌, eqb, true}
use Rattle.std.proofs.Common.{false, List, [], ◌∷◌, ◌++◌, append-nil, refl, ap, sym, ◌∙◌, ⊎_elim}
use Rattle.std.proofs.Common.{arith}
use Rattle.std.proofs.Math.Nat.{mul-add-div_right, lt-div-mul-add, mod-eq_of_lt, mod-lt}
use Rattle.std.proofs.Math.Nat.{div-lt_iff_lt-mul, pow-suc}
use Rattle.std.proofs.lemmas.{Bool.cases_lt, Bool.ne_eqb, Nat.div-add-mod'}
use Rattle.std.specs.List.{list_all}
use Rattle.dnssec_base.specs.ErrorTexts.{in_table, last_digits, without_end_zeros}
use Rattle.dnssec_base.specs.declared.text.TimeUnit.{TimeUnit}
use Rattle.dnssec_base.specs.declared.text.TimeUnit.TheVariants.{Second, Millisecond, Microsecond}
use Rattle.dnssec_base.specs.declared.text.TimeUnit.TheVariants.{Nanosecond}

pow_pos : (k : ℕ) → 0 < 10 ^ k
pow_pos zero = omega arith
pow_pos (suc k) = omega (arith, pow_pos k, pow-suc 10 k)

-- what stands above the last k digits leaves them as they are
last_digits-above : (k a r : ℕ) → last_digits k (a * 10 ^ k + r) ≡ last_digits k r
unfolding last_digits
last_digits-above zero a r = refl
last_digits-above (suc k) a r =
    let whole : a * 10 ^ suc k ≡ (a * 10) * 10 ^ k = rw (pow-suc 10 k) (omega arith) in
    let digit : (a * 10 ^ suc k + r) / 10 ^ k % 10 ≡ r / 10 ^ k % 10 =
    rw (whole, mul-add-div_right (pow_pos k) (a * 10) r) (omega arith) in
    rw (digit, whole, last_digits-above k (a * 10) r)

last_digits-rem : (k n : ℕ) → last_digits k (n % 10 ^ k) ≡ last_digits k n
last_digits-rem k n =
    sym (last_digits-above k (n / 10 ^ k) (n % 10 ^ k))
    ∙ ap (last_digits k) (div-add-mod' n (10 ^ k))

all_zeros : (k : ℕ) → list_all (λ e. eqb e 48) (last_digits k 0) ≡ true
unfolding last_digits
all_zeros zero = refl
all_zeros (suc k) =
    let digit : 0 / 10 ^ k ≡ 0 = omega (arith, pow_pos k) in rw (digit, all_zeros k)

digit_below : (k n : ℕ) → n < 10 ^ suc k → n / 10 ^ k < 10
digit_below k n small = (div-lt_iff_lt-mul (pow_pos k)).1 (omega (arith, pow-suc 10 k))

first_digit : (k n : ℕ) → n < 10 ^ suc k → n / 10 ^ k % 10 ≡ n / 10 ^ k
first_digit k n small = mod-eq_of_lt (digit_below k n small)

first_digit-pos : (k n : ℕ) → n < 10 ^ suc k → 10 ^ k ≤ n → 48 + n / 10 ^ k % 10 ≡ 48 → ⊥
first_digit-pos k n small above e =
    let none : n / 10 ^ k ≡ 0 = omega (arith, first_digit k n small) in
    let low : n < n / 10 ^ k * 10 ^ k + 10 ^ k = lt-div-mul-add (pow_pos k) in
    omega (arith, rw none at low)

not_all_zeros : (k n : ℕ) → 0 < n → n < 10 ^ k
    → list_all (λ e. eqb e 48) (last_digits k n) ≡ false
unfolding last_digits
not_all_zeros zero n some small = absurd (omega arith)
not_all_zeros (suc k) n some small =
    ⊎_elim (λ (below : n < 10 ^ k). grind (arith, not_all_zeros k n some below))
    (λ (above : 10 ^ k ≤ n). rw (ne_eqb _ 48 (first_digit-pos k n small above)))
    (cases_lt n (10 ^ k))

decimals_none : (k : ℕ) → without_end_zeros (last_digits k 0) ≡ []
unfolding without_end_zeros last_digits
decimals_none zero = refl
decimals_none (suc k) = rw (all_zeros (suc k))

-- the decimals of what is left are a digit, and the decimals of what it leaves
pub record Turn (k place rest : ℕ) : Type 0 where
  pub next : ℕ
  pub place_is : place / 10 ≡ 10 ^ next
  pub digit : rest / (place / 10) < 10
  pub left : rest % (place / 10) < place / 10
  pub text : without_end_zeros (last_digits k rest)
      ≡ (48 + rest / (place / 10)) ∷ without_end_zeros (last_digits next (rest % (place / 10)))

decimals_more : (k n : ℕ) → 0 < n → n < 10 ^ suc k
    → without_end_zeros (last_digits (suc k) n)
    ≡ (48 + n / 10 ^ k) ∷ without_end_zeros (last_digits k (n % 10 ^ k))
unfolding without_end_zeros last_digits
decimals_more k n some small =
    rw (not_all_zeros (suc k) n some small, last_digits-rem k n, first_digit k n small)

tenth : (k place : ℕ) → place ≡ 10 ^ suc k → place / 10 ≡ 10 ^ k
tenth k place e = rw (e, pow-suc 10 k) (omega arith)

pub place_left : (k place : ℕ) → place ≡ 10 ^ k → 1 < place → 0 < place / 10
place_left zero place e more = absurd (omega arith)
place_left (suc k) place e more = rw (tenth k place e) (pow_pos k)

-- if something is left, a place is left for it
pub turn : (k place rest : ℕ) → place ≡ 10 ^ k → 0 < rest → rest < place → Turn k place rest
turn zero place rest e some small = absurd (omega arith)
turn (suc k) place rest e some small =
    let below : rest < 10 ^ suc k = omega arith in record {
      next = k;
      place_is = tenth k place e;
      digit = rw (tenth k place e) (digit_below k rest below);
      left = rw (tenth k place e) (mod-lt rest (pow_pos k));
      text = rw (tenth k place e) (decimals_more k rest some below);
    }

-- if nothing is left, all the decimals are written
pub all_decimals : (k rest : ℕ) (done all : List ℕ) → rest ≡ 0
    → done ++ without_end_zeros (last_digits k rest) ≡ all → done ≡ all
all_decimals k rest done all none whole =
    sym (rw (none, decimals_none k) (append-nil done)) ∙ whole

-- a unit has enough decimals for all the nanoseconds that it has
pub nanos-in_table : (unit : TimeUnit) → (in_table unit).nanos ≡ 10 ^ (in_table unit).places
nanos-in_table Second = refl
nanos-in_table Millisecond = refl
nanos-in_table Microsecond = refl
nanos-in_table Nanosecond = refl
