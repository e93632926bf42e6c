-- Words of bits: sets of numbers meet if and only if they share a number.
use Rattle.dnssec_judge.proofs.Base.{[], ℕ, ◌%◌, ◌+◌, ◌-◌, ◌/◌, ◌<◌, ◌||◌, ◌∷◌, ◌≡◌, all_at, arith}
use Rattle.dnssec_judge.proofs.Base.{bit_and, bit_at, bit_at-lt, bit_at-zero, bit_at_and, common_at}
use Rattle.dnssec_judge.proofs.Base.{Decides, Decides-like, false, get_or_past, has_bit, has_none}
use Rattle.dnssec_judge.proofs.Base.{if◌then◌else◌, in_word, List, meet, meet_three, nat_eq}
use Rattle.dnssec_judge.proofs.Base.{nat_tests, refl, same_from_decides, suc, true, zero}
use Rattle.dnssec_judge.specs.Bits.{HasSome, Share, ShareAll, any_below, end_of, word_at}
use Rattle.std.proofs.lemmas.Bool.Decides.{Decides-and, Decides-below_or, Decides-not}
use Rattle.std.proofs.lemmas.Bool.{true_from_ne_false}
use Rattle.std.proofs.lemmas.Nat.Bits.{bit_at-trailing_zeros, bit_at_clear_other, bit_at_clear_same}
use Rattle.std.proofs.lemmas.Nat.Bits.{bit_at_or, bit_at_set_other, bit_at_set_same}
use Rattle.std.specs.{Int.bit_not, Int.trailing_zeros, Int.w64, Int.Bits.bit_or, Prelude.Bool}
use Rattle.std.specs.{Prelude.get_or, Prelude.◌*◌, Prelude.◌^◌}

-- a word is the first, or one of the others
pub word-of : (first : ℕ) (rest : List ℕ) (i : ℕ)
    → word_at (first ∷ rest) i ≡ (if nat_eq i 0 then first else get_or rest (i - 1) 0)
word-of first rest zero = refl
word-of first rest (suc i) = grind (arith, nat_tests)

-- past the last word no bit is set
bit-within : (words : List ℕ) (n : ℕ) → has_bit words n ≡ true → n < end_of words
bit-within words n e = grind (arith, nat_tests, bit_at-zero, get_or_past)

pub no-bit : (n : ℕ) → has_bit (0 ∷ []) n ≡ false
no-bit n = grind (arith, nat_tests, bit_at-zero, word-of 0 [] (n / 64))

-- three sets meet
pub meet-three-decides : (words ones others : List ℕ)
    → Decides (meet_three words ones others) (ShareAll words ones others)
unfolding any_below
meet-three-decides words ones others =
    Decides-like _ (λ t. (t.0, t.2.0, t.2.1.0, t.2.1.1))
    (λ t. (t.0, bit-within words t.0 t.1, (t.1, (t.2, t.3))))
    (Decides-below_or _ _ (any_below _) (λ n. Decides-and _ _ (λ e. e, λ e. e)
    (Decides-and _ _ (λ e. e, λ e. e) (λ e. e, λ e. e))) refl (λ n. refl) (end_of words))

-- or two
pub meet-decides : (words others : List ℕ) → Decides (meet words others) (Share words others)
meet-decides words others =
    Decides-like _ (λ t. (t.0, t.1, t.2)) (λ t. (t.0, t.1, t.2, t.2))
    (meet-three-decides words others others)

-- or there are no numbers
pub none-decides : (words : List ℕ)
    → Decides (has_none words) ((n : ℕ) → has_bit words n ≡ true → ⊥)
none-decides words =
    Decides-like _ (λ f n b. f (n, b, b)) (λ f t. f t.0 t.1)
    (Decides-not _ (meet-decides words words))

-- ---- words in the code

ruleset bits = (arith, nat_tests, bit_at_and, bit_at-lt, bit_at-zero)

-- words that have a bit in common share a number
all-shared : (words ones others : List ℕ) (i : ℕ) → HasSome (all_at words ones others i)
    → ShareAll words ones others
all-shared words ones others i some =
    let word = all_at words ones others i in let k = trailing_zeros w64 word in
    let low = bit_at-trailing_zeros w64 word some.0 some.1 in
    let at : (64 * i + k) / 64 ≡ i = omega (arith, low.0) in
    let bit : (64 * i + k) % 64 ≡ k = omega (arith, low.0) in let set = low.1 in (
      64 * i + k,
      grind (bits, at, bit, set),
      grind (bits, at, bit, set),
      grind (bits, at, bit, set),
    )

-- words that have none in common share no number
all-apart : (words ones others : List ℕ) → ((i : ℕ) → all_at words ones others i ≡ 0)
    → ShareAll words ones others → ⊥
all-apart words ones others none t =
    let i = t.0 / 64 in let k = t.0 % 64 in
    let three = bit_at_and (common_at words ones i) (word_at others i) k in
    let two = bit_at_and (word_at words i) (word_at ones i) k in
    grind (bits, none i, three, two, t.1, t.2, t.3)

-- a test that says yes only if a bit is common, and no only if none is
pub all_met : (words ones others : List ℕ) (r : Bool)
    → (r ≡ true → (i : ℕ) × HasSome (all_at words ones others i))
    → (r ≡ false → (i : ℕ) → all_at words ones others i ≡ 0) → r ≡ meet_three words ones others
all_met words ones others r is none = same_from_decides r (meet_three words ones others) (
  λ e. (let some = is e in all-shared words ones others some.0 some.1),
  λ t. true_from_ne_false r (λ e. all-apart words ones others (none e) t),
) (meet-three-decides words ones others)

-- ---- words that are written

module _ (word bit n : ℕ) (lt : bit < 64) where
  -- a bit is set, and the others stay
  pub bit-set : nat_eq (bit_at (bit_or word (1 * 2 ^ bit % 2 ^ 64)) (n % 64)) 1
      ≡ (if nat_eq bit (n % 64) then true else nat_eq (bit_at word (n % 64)) 1)
  bit-set =
      let other = bit_at_set_other w64 word bit lt (n % 64) in
      grind (arith, nat_tests, bit_at_set_same w64 word bit lt, other)

  -- or it is cleared
  pub bit-cleared : nat_eq (bit_at (bit_and word (bit_not w64 (1 * 2 ^ bit % 2 ^ 64))) (n % 64)) 1
      ≡ (if nat_eq bit (n % 64) then false else nat_eq (bit_at word (n % 64)) 1)
  bit-cleared =
      let other = bit_at_clear_other w64 word bit lt (n % 64) (omega arith) in
      grind (arith, nat_tests, bit_at_clear_same w64 word bit lt, other)

-- one word has no numbers if it is 0
pub one-none : (word : ℕ) → word < 2 ^ 64 → nat_eq word 0 ≡ has_none (word ∷ [])
one-none word lt = same_from_decides (nat_eq word 0) (has_none (word ∷ [])) (
  λ e n b. grind (bits, word-of, e, b),
  λ f. (let low = bit_at-trailing_zeros w64 word in
      grind (bits, word-of, f (trailing_zeros w64 word), lt, low)),
) (none-decides (word ∷ []))

-- a number is in both words together if it is in one
pub in_either : (word other n : ℕ)
    → in_word (bit_or word other) n ≡ (in_word word n || in_word other n)
in_either word other n = grind (bits, bit_at_or)
