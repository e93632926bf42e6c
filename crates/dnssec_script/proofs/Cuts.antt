-- A text that is cut at a byte: its first part, and the others.
use Rattle.std.proofs.Common.{◌≡◌, ℕ, ◌+◌, ◌^◌, true, false, Some, List, []}
use Rattle.std.proofs.Common.{◌∷◌, take, drop, length, map, sym, ap, ◌∙◌, ◌==◌, arith, subst}
use Rattle.std.proofs.Common.{◌≤◌, ◌<◌, get_or, not}
use Rattle.std.proofs.lemmas.List.{length-map}
use Rattle.std.proofs.lemmas.Simd.{leading_from_mask_l, length-chunk, mask_l-lt}
use Rattle.std.proofs.lemmas.Simd.{run_in_chunk_fails, run_in_chunk_stops, trailing_mask_l}
use Rattle.std.proofs.lemmas.List.Splits.{slice_split_first, slice_split_none}
use Rattle.std.proofs.lemmas.List.Sums.{AllPass-from_list_all, fails_before_first}
use Rattle.std.proofs.lemmas.List.Sums.{position_or_len_is}
use borrow.Author.Numbers.{trailing_lt}
use lib.{Count.count_trailing_zeros, Lanes.mask_l}
use Rattle.std.specs.{List.list_all, List.prefix_len, List.slice_split, Simd.Lanes.chunk}
use Rattle.std.specs.Option.{option_map_or}
use Rattle.dnssec_script.specs.Script.{first_field, is_reference, is_reference_byte}

-- no such byte comes before this place
abbrev pub HasNone : ℕ → List ℕ → ℕ → Type 0
HasNone byte text end = (k : ℕ) → k < end → (get_or text k 0 == byte) ≡ false

-- the first part, and the others after the first such byte
pub cut_at : (byte : ℕ) (text : List ℕ) (end : ℕ) → end < length text → HasNone byte text end
    → (get_or text end 0 == byte) ≡ true
    → slice_split (λ b. b == byte) text
    ≡ take end text ∷ slice_split (λ b. b == byte) (drop (end + 1) text)
cut_at byte text end within none stands =
    let place = position_or_len_is (λ b. b == byte) text end 0 (omega arith) none (λ l. stands) in
    subst (λ i. slice_split (λ b. b == byte) text
    ≡ take i text ∷ slice_split (λ b. b == byte) (drop (i + 1) text)) place
    (slice_split_first (λ b. b == byte) text 0 (omega (arith, place)))

-- a text without such a byte is one part
pub uncut : (byte : ℕ) (text : List ℕ) (end : ℕ) → end ≤ length text → length text ≤ end
    → HasNone byte text end → slice_split (λ b. b == byte) text ≡ text ∷ []
uncut byte text end within past none =
    let place = position_or_len_is (λ b. b == byte) text end 0 within none
    (λ l. absurd (omega (arith, l, past))) in
    slice_split_none (λ b. b == byte) text
    (λ k d below. fails_before_first (λ b. b == byte) text k d (omega (arith, below, place, past)))

-- some bytes from a place on are looked at together, and bits of `hits` say which of them are such
-- a byte
module _ (byte : ℕ) (text : List ℕ) (at n hits : ℕ) (room : at + n ≤ length text) (few : n ≤ 64)
    (seen : hits ≡ mask_l (map (λ b. b == byte) (chunk at n text))) where
  abbrev run : ℕ
  run = prefix_len (λ b. not (b == byte)) (chunk at n text)

  long : length (chunk at n text) ≡ n
  long = length-chunk at n text room

  further : (r : ℕ) → r ≡ run → HasNone byte text at → HasNone byte text (at + r)
  further r counted before k below = grind (
    arith,
    before k,
    run_in_chunk_fails (λ b. b == byte) text at n r 0 room counted k,
  )

  -- none of them is
  pub none_seen : hits ≡ 0 → HasNone byte text at → HasNone byte text (at + n)
  none_seen none = further n
      (sym (leading_from_mask_l (λ b. b == byte) (chunk at n text) (sym seen ∙ none) ∙ long))

  -- the first of them cuts the text
  module _ (some : 0 < hits) where
    first_seen : (k : ℕ) → n ≤ k → count_trailing_zeros k hits ≡ run
    first_seen k le = ap (count_trailing_zeros k) seen
        ∙ trailing_mask_l (λ b. b == byte) k (chunk at n text) (omega (arith, long, le))
        (omega (arith, seen, some))

    is_short : run < n
    is_short =
        let bits = map (λ b. b == byte) (chunk at n text) in
        let many : length bits ≡ n = length-map (chunk at n text) (λ b. b == byte) ∙ long in
        let below : hits < 2 ^ n = rw seen (subst (λ l. mask_l bits < 2 ^ l) many (mask_l-lt bits))
        in
        subst (λ r. r < n) (first_seen n (omega arith)) (trailing_lt n hits some below)

    pub seen_within : at + count_trailing_zeros 64 hits < length text
    seen_within = omega (arith, room, first_seen 64 few, is_short)

    pub cut_where_seen : HasNone byte text at
        → slice_split (λ b. b == byte) text
        ≡ take (at + count_trailing_zeros 64 hits) text
        ∷ slice_split (λ b. b == byte) (drop (at + count_trailing_zeros 64 hits + 1) text)
    cut_where_seen before =
        cut_at byte text (at + count_trailing_zeros 64 hits) seen_within
        (further _ (first_seen 64 few) before)
        (run_in_chunk_stops (λ b. b == byte) text at n _ 0 room (first_seen 64 few)
        (omega (arith, first_seen 64 few, is_short)))

-- the fields of a line, by the first and those after it
pub whole : (fields rest : List (List ℕ)) (text : List ℕ) → Some (text, rest) ≡ first_field fields
    → fields ≡ text ∷ rest
whole [] rest text first = cc
whole (field ∷ fields) rest text first =
    sym (ap (λ o. option_map_or (λ (x : List ℕ × List (List ℕ)). x.0 ∷ x.1) o []) first)

-- a reference is one part of a list
pub one_reference : (text : List ℕ) → is_reference text ≡ true
    → slice_split (λ b. b == 44) text ≡ text ∷ []
unfolding is_reference
one_reference text is =
    let bytes : list_all is_reference_byte text ≡ true = grind (arith, is) in
    slice_split_none (λ b. b == 44) text (λ i d lt. no_comma (get_or text i d)
    (AllPass-from_list_all is_reference_byte text bytes i d lt))
  where
    no_comma : (b : ℕ) → is_reference_byte b ≡ true → (b == 44) ≡ false
    no_comma b is = grind (arith, is)
