-- A number that is written in decimal is read as the same number.
use Rattle.std.proofs.Common.{◌≡◌, ℕ, ◌<◌, ◌≤◌, ◌*◌, ◌+◌, ◌-◌, ◌^◌, ◌==◌, Some}
use Rattle.std.proofs.Common.{true, not, nat_le, arith, decimal, fold, length, refl, rules, le-leb}
use Rattle.std.proofs.lemmas.Bool.Decides.{nat_tests}
use Rattle.std.proofs.lemmas.Fmt.{decimal_nonempty, digits_decimal, digits_value-decimal}
use Rattle.std.proofs.lemmas.Fmt.{length-decimal-le}
use Rattle.std.proofs.lemmas.List.Sums.{AllPass-from_list_all, list_all-from_AllPass}
use Rattle.std.proofs.lemmas.Str.Parse.{IsNumeralModel, numerals_by_fold}
use Rattle.std.specs.{Char.is_ascii_digit, List.list_all}
use Rattle.dnssec_script.specs.Script.{Moment, Number, as_number, as_time, is_number, number_of}
use Rattle.dnssec_policy.proofs.Texts.Cut.{lacks}

-- the reader's words for digits and their value
own : IsNumeralModel (λ ds. list_all is_ascii_digit ds ≡ true) number_of
own = numerals_by_fold _ (search rules) (λ n ds. fold (λ n d. n * 10 + (d - 48)) n ds)
    (search rules)

pub all-digits : (n : ℕ) → n < 2 ^ 64 → list_all is_ascii_digit (decimal n) ≡ true
all-digits n small = digits_decimal own n small

-- a number up to a bound
pub is-number : (most n : ℕ) → n ≤ most → most < 2 ^ 64 → is_number most (decimal n) ≡ true
unfolding is_number
is-number most n le small =
    let below : n < 2 ^ 64 = omega arith in
    let some : nat_le 1 (length (decimal n)) ≡ true = le-leb _ _ (decimal_nonempty n below) in
    let short : nat_le (length (decimal n)) 20 ≡ true =
    le-leb _ _ (length-decimal-le 20 n (omega arith) (omega arith) below) in
    let within : nat_le n most ≡ true = le-leb _ _ le in
    rw (some, short, all-digits n below, digits_value-decimal own n below, within) refl

pub number-back : (most n : ℕ) → n ≤ most → most < 2 ^ 64
    → as_number most (decimal n) ≡ Some (Number n)
unfolding as_number
number-back most n le small =
    rw (is-number most n le small, digits_value-decimal own n (omega arith)) refl

pub time-back : (n : ℕ) → n ≤ 18446744073709551615
    → as_time (decimal n) ≡ Some (Moment (n * 1_000_000_000))
unfolding as_time
time-back n le =
    rw (
      is-number 18446744073709551615 n le (omega arith),
      digits_value-decimal own n (omega arith),
    ) refl

-- a number has no byte that is no digit
digit-lacks : (c b : ℕ) → c < 48 → is_ascii_digit b ≡ true → not (b == c) ≡ true
digit-lacks c b below is = grind (arith, nat_tests)

pub digits-lack : (c n : ℕ) → c < 48 → n < 2 ^ 64 → lacks c (decimal n)
digits-lack c n below small =
    let each = AllPass-from_list_all is_ascii_digit (decimal n) (all-digits n small) in
    list_all-from_AllPass (λ b. not (b == c)) (decimal n)
    (λ k d within. digit-lacks c _ below (each k d within))
