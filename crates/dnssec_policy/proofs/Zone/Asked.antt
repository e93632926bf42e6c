-- The last line of a text, and the lines above it.
use Rattle.std.proofs.Common.{◌≡◌, ◌∙◌, ℕ, zero, suc, ◌+◌, ◌-◌, ◌<◌, ◌≤◌, ◌++◌, ◌∷◌, ◌==◌, List, []}
use Rattle.std.proofs.Common.{Bool, true, false, ap, arith, drop, get_or, if◌then◌else◌}
use Rattle.std.proofs.Common.{length, length-drop, subst, sym, take}
use Rattle.std.specs.List.{onto_first, slice_split}
use Rattle.std.proofs.lemmas.List.{drop_more, take-append-drop, take_all, take_more}
use Rattle.std.proofs.lemmas.List.Splits.{slice_split-cons_no}
use Rattle.dnssec_script.{proofs.Judging.without_end_last, specs.Script.without_end}
use Rattle.dnssec_policy.{specs.Automatic.Asking.IsLastLine, proofs.Texts.Cut.split-join}

-- ---- from the end of a text

-- no line feed stands from a position on
abbrev pub IsOneLine : List ℕ → ℕ → Type 0
IsOneLine text at = slice_split (λ b. b == 10) (drop at text) ≡ drop at text ∷ []

-- one byte more, which is none
one_more : (text : List ℕ) (at : ℕ) → at < length text
    → (get_or text at 0 == 10) ≡ false → IsOneLine text (at + 1) → IsOneLine text at
one_more text at within other so =
    rw (drop_more text at 0 within)
    (slice_split-cons_no (λ b. b == 10) (get_or text at 0) (drop (at + 1) text) other
    ∙ ap (onto_first (get_or text at 0)) so)

-- a line feed, after which there is none
feed_found : (text : List ℕ) (at : ℕ) → at < length text
    → (get_or text at 0 == 10) ≡ true → IsOneLine text (at + 1)
    → IsLastLine text (take (at + 1) text) (drop (at + 1) text)
feed_found text at within feed so =
    let b = get_or text at 0 in
    let above : without_end (take (at + 1) text) ≡ take at text =
    ap without_end (take_more text at 0 within) ∙ without_end_last (take at text) b
    ∙ ap (λ (t : Bool). if t then take at text else take at text ++ b ∷ []) feed in
    let cut : take at text ++ b ∷ drop (at + 1) text ≡ text =
    ap (λ ys. take at text ++ ys) (sym (drop_more text at 0 within)) ∙ take-append-drop at text in
    ap (slice_split (λ c. c == 10)) (sym cut)
    ∙ split-join (λ c. c == 10) (take at text) b (drop (at + 1) text) feed
    ∙ ap (λ parts. slice_split (λ c. c == 10) (take at text) ++ parts) so
    ∙ ap (λ t. slice_split (λ c. c == 10) t ++ drop (at + 1) text ∷ []) (sym above)

-- the same where the byte before a position is one
pub last_found : (text : List ℕ) (at : ℕ) → 0 < at → at ≤ length text
    → get_or text (at - 1) 0 ≡ 10 → IsOneLine text at
    → IsLastLine text (take at text) (take (length text - at) (drop at text))
last_found text zero some within feed so = absurd (omega arith)
last_found text (suc n) some within feed so =
    let next : n + 1 ≡ suc n = omega arith in
    let back : suc n - 1 ≡ n = omega arith in
    let here : get_or text n 0 ≡ 10 = ap (λ k. get_or text k 0) (sym back) ∙ feed in
    let is_feed : (get_or text n 0 == 10) ≡ true = ap (λ b. b == 10) here in
    let all : take (length text - suc n) (drop (suc n) text) ≡ drop (suc n) text =
    take_all (length text - suc n) (drop (suc n) text) (omega (arith, length-drop (suc n) text)) in
    subst (λ ys. IsLastLine text (take (suc n) text) ys) (sym all)
    (subst (λ k. IsLastLine text (take k text) (drop k text)) next
    (feed_found text n (omega arith) is_feed (subst (IsOneLine text) (sym next) so)))
