-- What a byte prints by its number is three digits: for the text that a name displays.
use Rattle.std.proofs.Common.{ℕ, ◌≡◌, ◌⊎◌, ◌+◌, ◌/◌, ◌%◌, ◌<◌, ◌≤◌, ◌^◌, ◌-◌, List, [], ◌∷◌, false}
use Rattle.std.proofs.Common.{⊎_elim, arith, ap, ◌∙◌, sym}
use Rattle.std.proofs.lemmas.Bool.{cases_lt, Decides.nat_tests}
use Rattle.std.proofs.lemmas.Fmt.{decimal_digit, decimal_step}
use Rattle.std.specs.Fmt.{decimal, padded_integral, format_spec, styled_decimal, char_count}
use Rattle.dnssec_base.specs.NameText.{printed_byte, backslash}

-- the digits of a byte
abbrev pub digits_of : ℕ → List ℕ
digits_of n = (48 + n / 100) ∷ (48 + n / 10 % 10) ∷ (48 + n % 10) ∷ []

-- a number below 256 in three digits
pub three_digits : (n : ℕ) → n < 256
    → padded_integral (format_spec 32 0 4 3 (2 ^ 64 - 1)) false [] (decimal n) ≡ digits_of n
unfolding padded_integral char_count
three_digits n small = ⊎_elim
    (λ one. let a : n / 100 ≡ 0 = omega arith in let b : n / 10 % 10 ≡ 0 = omega arith in
    let c : n % 10 ≡ n = omega arith in rw (decimal_digit n one, a, b, c))
    (λ more. ⊎_elim
    (λ two. let ten : n / 10 < 10 = omega arith in let a : n / 100 ≡ 0 = omega arith in
    let b : n / 10 % 10 ≡ n / 10 = omega arith in
    let wide : n < 2 ^ 64 = omega arith in
    rw (decimal_step n more wide, decimal_digit (n / 10) ten, a, b))
    (λ three. let ten : 10 ≤ n / 10 = omega arith in let one : n / 10 / 10 < 10 = omega arith in
    let a : n / 10 / 10 ≡ n / 100 = omega arith in
    let wide : n < 2 ^ 64 = omega arith in let wide' : n / 10 < 2 ^ 64 = omega arith in
    rw (
      decimal_step n more wide,
      decimal_step (n / 10) ten wide',
      decimal_digit (n / 10 / 10) one,
      a,
    ))
    (cases_lt n 100))
    (cases_lt n 10)

-- a byte that is not visible prints its number
pub hidden : (n : ℕ) → (n < 0x21) ⊎ (0x7F ≤ n) → printed_byte n ≡ backslash ∷ digits_of n
hidden n out = grind (arith, nat_tests)

-- what `\\{byte:03}` writes of a byte that is not visible
pub styled : (n : ℕ) → n < 256 → (n < 0x21) ⊎ (0x7F ≤ n)
    → backslash ∷ styled_decimal (format_spec 32 0 4 3 (2 ^ 64 - 1)) n ≡ printed_byte n
styled n small out = ap (λ digits. backslash ∷ digits) (three_digits n small) ∙ sym (hidden n out)
