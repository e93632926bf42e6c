-- A text that is made of lines, or a line that is made of fields, is cut where it was joined.
use Rattle.std.proofs.Common.{◌≡◌, ℕ, ◌==◌, ◌∙◌, ◌++◌, ◌∷◌, List, [], All, false, true, not}
use Rattle.std.proofs.Common.{ap, sym, append_assoc, arith, refl, inl, inr, length, Bool, ◌<◌}
use Rattle.std.proofs.lemmas.Bool.{and_parts, cases_Bool, Decides.nat_tests}
use Rattle.std.proofs.lemmas.List.Splits.{length-slice_split, slice_split-cons_no}
use Rattle.std.proofs.lemmas.List.Splits.{slice_split-cons_yes, slice_split_at, slice_split_none}
use Rattle.std.proofs.lemmas.List.{Sums.AllPass-from_list_all, Folds.list_all-append}
use Rattle.std.specs.List.{list_all, onto_first, slice_split}
use Rattle.dnssec_script.proofs.Judging.{without_end_last}
use Rattle.dnssec_script.specs.Script.{fields_of, lines_of, without_end}

-- the byte isn't in the text
abbrev pub lacks : ℕ → List ℕ → Type 0
lacks c text = list_all (λ b. not (b == c)) text ≡ true

never : (b c : ℕ) → not (b == c) ≡ true → (b == c) ≡ false
never b c h = grind (arith, nat_tests)

pub none-of : (c : ℕ) (text : List ℕ) → lacks c text → All (λ b. (b == c) ≡ false) text
none-of c text h =
    let each = AllPass-from_list_all (λ b. not (b == c)) text h in
    λ k d below. never _ c (each k d below)

-- nor in two texts, if it is in neither
pub lack-append : (c : ℕ) (xs ys : List ℕ) → lacks c xs → lacks c ys → lacks c (xs ++ ys)
lack-append c xs ys e f = list_all-append (λ b. not (b == c)) xs ys ∙ rw (e, f) refl

-- ---- parts

-- the first part grows, and the last parts stay
onto_first-append : {X : Type 0} (x : X) (parts more : List (List X)) → 0 < length parts
    → onto_first x (parts ++ more) ≡ onto_first x parts ++ more
onto_first-append x [] more some = absurd (omega arith)
onto_first-append x (part ∷ parts) more some = refl

-- the parts before an element at which a list is cut, and those after it
pub split-join : {X : Type 0} (p : X → Bool) (xs : List X) (y : X) (ys : List X) → p y ≡ true
    → slice_split p (xs ++ y ∷ ys) ≡ slice_split p xs ++ slice_split p ys
split-join p [] y ys cuts = slice_split-cons_yes p y ys cuts
split-join p (x ∷ xs) y ys cuts = elim (cases_Bool (p x)) [
  | inl t ↦
      slice_split-cons_yes p x (xs ++ y ∷ ys) t ∙ ap (λ ps. [] ∷ ps) (split-join p xs y ys cuts)
      ∙ ap (λ ps. ps ++ slice_split p ys) (sym (slice_split-cons_yes p x xs t))
  | inr f ↦
      let some = length-slice_split p xs in
      slice_split-cons_no p x (xs ++ y ∷ ys) f ∙ ap (onto_first x) (split-join p xs y ys cuts)
      ∙ onto_first-append x (slice_split p xs) (slice_split p ys) (omega (arith, some))
      ∙ ap (λ ps. ps ++ slice_split p ys) (sym (slice_split-cons_no p x xs f))
]

-- ---- fields

pub one-field : (text : List ℕ) → lacks 32 text → fields_of text ≡ text ∷ []
one-field text h = slice_split_none (λ b. b == 32) text (none-of 32 text h)

pub first-field : (text rest : List ℕ) → lacks 32 text
    → fields_of (text ++ 32 ∷ rest) ≡ text ∷ fields_of rest
first-field text rest h = slice_split_at (λ b. b == 32) text 32 rest (none-of 32 text h) refl

-- ---- lines

-- the text of lines
abbrev pub text_of : List (List ℕ) → List ℕ
text_of [] = []
text_of (line ∷ lines) = line ++ 10 ∷ text_of lines

-- the same without the last line feed
abbrev open_text : List ℕ → List (List ℕ) → List ℕ
open_text line [] = line
open_text line (next ∷ lines) = line ++ 10 ∷ open_text next lines

closed : (line : List ℕ) (lines : List (List ℕ))
    → text_of (line ∷ lines) ≡ open_text line lines ++ 10 ∷ []
closed line [] = refl
closed line (next ∷ lines) =
    ap (λ t. line ++ 10 ∷ t) (closed next lines)
    ∙ sym (append_assoc line (10 ∷ open_text next lines) (10 ∷ []))

-- no line has a line feed
abbrev pub AllLack : List (List ℕ) → Type 0
AllLack lines = list_all (λ line. list_all (λ b. not (b == 10)) line) lines ≡ true

cut : (line : List ℕ) (lines : List (List ℕ)) → AllLack (line ∷ lines)
    → slice_split (λ b. b == 10) (open_text line lines) ≡ line ∷ lines
cut line [] h = slice_split_none (λ b. b == 10) line (none-of 10 line (and_parts _ _ h).0)
cut line (next ∷ lines) h =
    let lack = and_parts _ _ h in
    slice_split_at (λ b. b == 10) line 10 (open_text next lines) (none-of 10 line lack.0) refl
    ∙ ap (λ t. line ∷ t) (cut next lines lack.1)

-- the lines of their text
pub lines-back : (line : List ℕ) (lines : List (List ℕ)) → AllLack (line ∷ lines)
    → lines_of (text_of (line ∷ lines)) ≡ line ∷ lines
lines-back line lines h =
    ap (λ t. slice_split (λ b. b == 10) (without_end t)) (closed line lines)
    ∙ ap (slice_split (λ b. b == 10)) (without_end_last (open_text line lines) 10)
    ∙ cut line lines h

-- of one list and of another
pub text-append : (xs ys : List (List ℕ)) → text_of (xs ++ ys) ≡ text_of xs ++ text_of ys
text-append [] ys = refl
text-append (x ∷ xs) ys =
    ap (λ t. x ++ 10 ∷ t) (text-append xs ys)
    ∙ sym (append_assoc x (10 ∷ text_of xs) (text_of ys))
