-- The words so far grow by a separator and the next word, if its flag is set.
use Rattle.std.proofs.Common.{◌≡◌, ℕ, ◌+◌, ◌<◌, Bool, true, false, List, [], ◌∷◌, ◌++◌, codes, map}
use Rattle.std.proofs.Common.{take, length, get_or, refl, sym, ◌∙◌, append-nil, append_assoc}
use Rattle.std.proofs.lemmas.{Grind.flat_map-append, List.map-append, List.take_more}
use Rattle.std.{proofs.lemmas.List.Elements.filter-append, specs.List.flat_map}
use Rattle.dnssec_key.specs.Texts.{comma_list, set_words}
use denote.Bor.{Bor}

-- what goes before the next word
abbrev pub separator_after : List (List ℕ) → List ℕ
separator_after [] = []
separator_after (w ∷ ws) = codes ", "

listed_push : (ws : List (List ℕ)) (w : List ℕ)
    → comma_list (ws ++ w ∷ []) ≡ comma_list ws ++ (separator_after ws ++ w)
listed_push [] w = append-nil w
listed_push (x ∷ xs) w =
    let after : List ℕ → List ℕ = λ y. codes ", " ++ y in
    rw (flat_map-append after xs (w ∷ []), append-nil (after w))
    (sym (append_assoc x (flat_map after xs) (after w)))

separator_after-push : (ws : List (List ℕ)) (w : List ℕ)
    → separator_after (ws ++ w ∷ []) ≡ codes ", "
separator_after-push [] w = refl
separator_after-push (x ∷ xs) w = refl

-- the flags with their words, read from the code's array
abbrev pub viewed : List (Bool × Bor (List ℕ)) → List (Bool × List ℕ)
viewed flags = map (λ (f : Bool × Bor (List ℕ)). (f.0, f.1.now)) flags

-- the words among the first i flags
abbrev pub words_before : List (Bool × Bor (List ℕ)) → ℕ → List (List ℕ)
words_before flags i = set_words (viewed (take i flags))

words_more : (flags : List (Bool × Bor (List ℕ))) (i : ℕ) (d : Bool × Bor (List ℕ))
    → i < length flags
    → words_before flags (i + 1)
    ≡ words_before flags i ++ set_words (viewed (get_or flags i d ∷ []))
words_more flags i d h = rw (take_more flags i d h) (simp (map-append, filter-append))

pub word_skipped : (flags : List (Bool × Bor (List ℕ))) (i : ℕ) (d : Bool × Bor (List ℕ))
    → i < length flags → (get_or flags i d).0 ≡ false
    → words_before flags (i + 1) ≡ words_before flags i
word_skipped flags i d h unset = words_more flags i d h ∙ rw unset (append-nil _)

-- after a separator and flag i's word the words are one more, and have a separator to come
pub record AddsWord (flags : List (Bool × Bor (List ℕ))) (i : ℕ) (separator word : List ℕ)
    : Type 0 where
  pub text : comma_list (words_before flags i) ++ (separator ++ word)
      ≡ comma_list (words_before flags (i + 1))
  pub next : codes ", " ≡ separator_after (words_before flags (i + 1))

pub word_added : (flags : List (Bool × Bor (List ℕ))) (i : ℕ) (d : Bool × Bor (List ℕ))
    → (separator : List ℕ) → i < length flags → (get_or flags i d).0 ≡ true
    → separator ≡ separator_after (words_before flags i)
    → AddsWord flags i separator (get_or flags i d).1.now
word_added flags i d separator h set e =
    let word = (get_or flags i d).1.now in
    let so_far = words_before flags i in
    let more : words_before flags (i + 1) ≡ so_far ++ word ∷ [] =
    words_more flags i d h ∙ rw set in record {
      text = rw (more, e) (sym (listed_push so_far word));
      next = rw more (sym (separator_after-push so_far word));
    }
