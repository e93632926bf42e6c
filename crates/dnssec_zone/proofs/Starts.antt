-- What the check of a start cites: the keys to go on with, and the algorithms of its two lists.
use Rattle.std.proofs.Common.{◌≡◌, ℕ, Bool, List, None, Ok, ap, sym, ◌∙◌, arith, ◌+◌, ◌*◌, ◌/◌, ◌%◌}
use Rattle.dnssec_zone.specs.Start.{is_met, some_kept, serves_as_kept, algorithms_within}
use Rattle.std.proofs.Common.{◌<◌, ◌^◌, true, false, [], ◌∷◌, length, get_or, refl}
use Rattle.std.proofs.{lemmas.Bool.and_from, lemmas.Bool.and_parts, lemmas.Bool.or_right}
use Rattle.std.proofs.{lemmas.Bool.Decides.nat_tests, lemmas.List.ext_get_or}
use Rattle.std.proofs.{lemmas.Nat.Bits.bit_at-lt, lemmas.Nat.Bits.same_from_bits_below}
use Rattle.std.specs.{Prelude.Option, Prelude.◌&&◌, Prelude.◌||◌, Prelude.nat_eq, List.list_all}
use Rattle.std.specs.{FinMap.get, Int.bit_at, Option.option_map_or, Str.bytes_eq}
use Rattle.std.specs.{Cmp.Lexicographic.bytes_decides, Cmp.both_ways}
use Rattle.dnssec_base.specs.declared.error.Error.{Error}
use Rattle.dnssec_key.specs.Key.{KeyParts}
use Rattle.dnssec_zone.specs.Inner.Bits.{is_set}
use Rattle.dnssec_zone.specs.{Start.Want, Start.has_algorithm, Inner.NewKeys.AreOf}
use Rattle.dnssec_zone.specs.{Inner.NewKeys.some_serves, declared.check.NewKeys.NewKeys, Keys.Keys}
use Rattle.dnssec_zone.specs.{Refusals.AnswersExactly}

-- all that a start has to leave is there, by the kinds of the new keys and a walk over what the
-- code asks for
pub all_met-is : (keys : Keys) (olds news : List (List ℕ)) (new : NewKeys)
    → AreOf (get keys) news new → (ws : List Want) → (met : Bool)
    → met ≡ list_all (λ w. some_serves new w || some_kept (serves_as_kept w) keys olds) ws
    → list_all (is_met keys olds news) ws ≡ met
all_met-is keys olds news new of ws met is =
    (λ i. list_all (λ w. sym (of w) i || some_kept (serves_as_kept w) keys olds) ws) ∙ sym is

-- an accepted answer has no cause
pub passed : {T : Type 0} (o : Option Error) (x : T) → AnswersExactly o (Ok x) → o ≡ None
passed o x h = grind arith

-- ---- two lists have the same algorithms if each one's are among the other's

module _ (at : List ℕ → Option KeyParts) where
  -- what is within the others has an algorithm that the others have
  found : (qs others : List (List ℕ)) (a : ℕ) → algorithms_within at qs others ≡ true
      → has_algorithm at qs a ≡ true → has_algorithm at others a ≡ true
  found [] others a within has = cc
  found (q ∷ qs) others a within has = grind (arith, nat_tests, found qs others a)

  within-step : (o : Option KeyParts) (qs others : List (List ℕ))
      → ((a : ℕ) → (option_map_or (λ (k : KeyParts). nat_eq k.algorithm a) o false
      || has_algorithm at qs a) ≡ true → has_algorithm at others a ≡ true)
      → option_map_or (λ (k : KeyParts). has_algorithm at others k.algorithm) o true ≡ true
  within-step o qs others h = grind (arith, nat_tests, h)

  -- what has no algorithm but those of the others is within them
  within_by : (qs others : List (List ℕ))
      → ((a : ℕ) → has_algorithm at qs a ≡ true → has_algorithm at others a ≡ true)
      → algorithms_within at qs others ≡ true
  within_by [] others h = refl
  within_by (q ∷ qs) others h = and_from _ _ (within-step (at q) qs others h)
      (within_by qs others (λ a has. h a (or_right _ _ has)))

-- sets with the same numbers have the same words
same_words : (xs ys : List ℕ) → length xs ≡ length ys
    → ((i : ℕ) → i < length xs → get_or xs i 0 < 2 ^ 64)
    → ((i : ℕ) → i < length xs → get_or ys i 0 < 2 ^ 64)
    → ((n : ℕ) → is_set xs n ≡ is_set ys n) → xs ≡ ys
same_words xs ys long low_xs low_ys same = ext_get_or 0 xs ys long
    (λ i h. same_from_bits_below 64 (get_or xs i 0) (get_or ys i 0) (low_xs i h) (low_ys i h)
    (λ j b. bit i j b))
  where
    bit : (i j : ℕ) → j < 64 → bit_at (get_or xs i 0) j ≡ bit_at (get_or ys i 0) j
    bit i j b =
        let word : (64 * i + j) / 64 ≡ i = omega arith in
        let place : (64 * i + j) % 64 ≡ j = omega arith in
        grind (arith, nat_tests, bit_at-lt, word, place, same (64 * i + j))

pub same_algorithms : (at : List ℕ → Option KeyParts) (olds news : List (List ℕ)) (xs ys : List ℕ)
    → length xs ≡ length ys
    → ((i : ℕ) → i < length xs → get_or xs i 0 < 2 ^ 64)
    → ((i : ℕ) → i < length xs → get_or ys i 0 < 2 ^ 64)
    → ((a : ℕ) → is_set xs a ≡ has_algorithm at olds a)
    → ((a : ℕ) → is_set ys a ≡ has_algorithm at news a)
    → bytes_eq xs ys ≡ (algorithms_within at olds news && algorithms_within at news olds)
same_algorithms at olds news xs ys long low_xs low_ys of_olds of_news = both_ways _ _
    (λ same.
    let words : xs ≡ ys = (bytes_decides xs ys).0 same in
    let one : (a : ℕ) → has_algorithm at olds a ≡ has_algorithm at news a =
    λ a. sym (of_olds a) ∙ ap (λ ws. is_set ws a) words ∙ of_news a in
    and_from _ _ (within_by at olds news (λ a has. sym (one a) ∙ has))
    (within_by at news olds (λ a has. one a ∙ has)))
    (λ both. (bytes_decides xs ys).1 (same_words xs ys long low_xs low_ys
    (λ a. of_olds a ∙ both_ways _ _ (found at olds news a (and_parts _ _ both).0)
    (found at news olds a (and_parts _ _ both).1) ∙ sym (of_news a))))
