-- Digits write at least what the first of them write, and have no space.
use Rattle.std.proofs.Common.{◌≡◌, ℕ, zero, suc, ◌+◌, ◌-◌, ◌*◌, ◌<◌, ◌≤◌, ◌&&◌, Bool, true, false}
use Rattle.std.proofs.Common.{List, [], ◌∷◌, length, get_or, take, arith, refl, ap, sym, ◌∙◌, ◌==◌}
use Rattle.std.proofs.Common.{None, Some}
use Rattle.std.proofs.lemmas.{Bool.Decides.nat_tests, List.Sums.AllPass-from_list_all}
use Rattle.std.proofs.lemmas.List.Splits.{join_with_byte-slice_split, slice_split_none}
use Rattle.std.specs.Prelude.{Option, fold, if◌then◌else◌, nat_le}
use Rattle.std.specs.{Char.is_ascii_digit, List.join_with_byte, List.list_all}
use Rattle.std.specs.Option.{option_and_then, option_map}
use Rattle.dnssec_script.specs.Script.{Moment, Value, as_time, fields_of, is_number, number_of}
use Rattle.dnssec_script.specs.Script.{values_of}

-- what digits write after others
abbrev after : ℕ → List ℕ → ℕ
after n digits = fold (λ n d. n * 10 + (d - 48)) n digits

at_least : (digits : List ℕ) (n : ℕ) → n ≤ after n digits
at_least [] n = omega arith
at_least (d ∷ ds) n = let more = at_least ds (n * 10 + (d - 48)) in omega arith

next_after : (digits : List ℕ) (i n : ℕ) → i < length digits
    → after n (take i digits) * 10 + (get_or digits i 0 - 48) ≤ after n digits
next_after [] i n within = absurd (omega arith)
next_after (d ∷ ds) zero n within = at_least ds (n * 10 + (d - 48))
next_after (d ∷ ds) (suc i) n within = next_after ds i (n * 10 + (d - 48)) (omega arith)

never : (b : Bool) → (b && false) ≡ false
never true = refl
never false = refl

-- no number up to `most`, if the first digits and the next one write more
pub too_great : (most : ℕ) (digits : List ℕ) (i : ℕ) → i < length digits
    → most < number_of (take i digits) * 10 + (get_or digits i 0 - 48)
    → is_number most digits ≡ false
unfolding is_number
too_great most digits i within above =
    let more = next_after digits i 0 within in
    let past : nat_le (number_of digits) most ≡ false = grind (arith, nat_tests) in
    rw past (never (nat_le 1 (length digits) && nat_le (length digits) 20
    && list_all is_ascii_digit digits))

-- ---- the last field

-- a digit is no space
no_space : (d : ℕ) → is_ascii_digit d ≡ true → (d == 32) ≡ false
no_space d is = grind (arith, nat_tests, is)

-- fields whose text is no number aren't one moment
one_time : (text : List ℕ) (fields : List (List ℕ)) → fields_of text ≡ fields
    → is_number 18446744073709551615 text ≡ false
    → values_of (as_time ∷ []) fields ≡ None
unfolding as_time
one_time text [] is isnt = refl
one_time text (field ∷ []) is isnt =
    let same : field ≡ text =
    ap (join_with_byte 32) (sym is) ∙ join_with_byte-slice_split 32 text in
    rw (same, isnt) refl
one_time text (field ∷ next ∷ fields) is isnt = by (as_time field)
  where
    by : (o : Option Value) → option_and_then (λ (x : Value × List (List ℕ)).
        option_map (λ values. x.0 ∷ values) (values_of [] x.1))
        (option_map (λ v. (v, next ∷ fields)) o) ≡ None
    by None = refl
    by (Some v) = refl

-- and a number is one field
pub only_time : (text : List ℕ) (seconds : Option ℕ)
    → seconds ≡ (if is_number 18446744073709551615 text then Some (number_of text) else None)
    → values_of (as_time ∷ []) (fields_of text)
    ≡ option_map (λ s. Moment (s * 1_000_000_000) ∷ []) seconds
unfolding as_time is_number
only_time text seconds read = by (is_number 18446744073709551615 text) refl
  where
    by : (b : Bool) → is_number 18446744073709551615 text ≡ b
        → values_of (as_time ∷ []) (fields_of text)
        ≡ option_map (λ s. Moment (s * 1_000_000_000) ∷ []) seconds
    by false isnt = rw (read, isnt) (one_time text (fields_of text) refl isnt)
    by true is =
        let digits : list_all is_ascii_digit text ≡ true = grind (arith, is) in
        let one : fields_of text ≡ text ∷ [] = slice_split_none (λ b. b == 32) text
        (λ i d lt. no_space (get_or text i d)
        (AllPass-from_list_all is_ascii_digit text digits i d lt)) in
        rw (read, one, is) refl
