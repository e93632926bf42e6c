-- What a name prints is symbols and dots for its bytes: for the law `PrintsItsSpelling`.
use Rattle.std.proofs.Common.{ℕ, zero, suc, ◌≡◌, ◌⊎◌, ◌≢◌, ◌+◌, ◌<◌, ◌≤◌, refl, sym, ap, subst, ◌∙◌}
use Rattle.std.proofs.Common.{inl, inr, ⊎_elim, List, [], ◌∷◌, ◌++◌, append_assoc, length}
use Rattle.std.proofs.Common.{length-append, All, arith, ◌/◌, ◌%◌}
use Rattle.std.proofs.lemmas.Bool.{cases_eq, Decides.nat_tests}
use Rattle.std.proofs.lemmas.List.Elements.{All-head, All-tail}
use Rattle.dnssec_base.specs.NameText.{Place, at_start, after_symbol, after_dot, is_root}
use Rattle.dnssec_base.specs.NameText.{has_labels, wire_end, dot, backslash, IsSymbol, plain}
use Rattle.dnssec_base.specs.NameText.{escaped, decimal, decimal_of, printed_after, printed_byte}
use Rattle.dnssec_base.specs.{WireName.AreLabels, WireName.wire_label, NameLaws.PrintsItsSpelling}
use Rattle.dnssec_base.proofs.Symbols.{begins, no_symbol, within}
use Rattle.dnssec_base.proofs.{PrintedBytes.hidden, PrintedBytes.digits_of, Wholes.IsOctet}

-- what a byte prints is a symbol for it, if it is a text that is one
printed_as : (n : ℕ) (text : List ℕ) → printed_byte n ≡ text → IsSymbol text n
    → IsSymbol (printed_byte n) n
printed_as n text e symbol = subst (λ s. IsSymbol s n) (sym e) symbol

-- a mark after a backslash is a symbol
mark_symbol : (n : ℕ) → (n ≡ dot) ⊎ (n ≡ backslash) → IsSymbol (printed_byte n) n
mark_symbol n is = printed_as n (backslash ∷ n ∷ []) (grind (arith, nat_tests))
    (escaped n (omega arith) (omega arith) (λ digit. omega arith))

-- a byte that is not visible is written by three digits
hidden_symbol : (n : ℕ) → n < 256 → (n < 0x21) ⊎ (0x7F ≤ n) → IsSymbol (printed_byte n) n
hidden_symbol n small out =
    let value_is : decimal_of (48 + n / 100) (48 + n / 10 % 10) (48 + n % 10) ≡ n = omega arith in
    let symbol : IsSymbol (backslash ∷ digits_of n)
    (decimal_of (48 + n / 100) (48 + n / 10 % 10) (48 + n % 10)) =
    decimal (48 + n / 100) (48 + n / 10 % 10) (48 + n % 10)
    (omega arith, omega arith) (omega arith, omega arith) (omega arith, omega arith)
    (omega arith) in
    printed_as n (backslash ∷ digits_of n) (hidden n out)
    (subst (IsSymbol (backslash ∷ digits_of n)) value_is symbol)

-- what a byte prints is a symbol for it
printed_symbol : (n : ℕ) → n < 256 → IsSymbol (printed_byte n) n
printed_symbol n small = ⊎_elim
    (λ seen. ⊎_elim
    (λ is_dot. mark_symbol n (inl is_dot))
    (λ no_dot. ⊎_elim
    (λ is_backslash. mark_symbol n (inr is_backslash))
    (λ no_backslash.
    printed_as n (n ∷ []) (grind (arith, nat_tests)) (plain n seen no_dot no_backslash))
    (cases_eq n backslash))
    (cases_eq n dot))
    (λ out. hidden_symbol n small out)
    (within 0x21 0x7E n)

-- the end of a text, and the name that it spells
record Ends (text name : List ℕ) : Type 0 where
  before : List ℕ
  last : List ℕ
  place : Place text before last []
  name_is : name ≡ before ++ wire_end last

-- From a place in the printed text on: `left` of a label's n bytes are still to come.
ends_after : (text labels label : List ℕ) (n left : ℕ) (bytes : List ℕ) → n ≡ length label + left
    → 0 < n → All IsOctet bytes → AreLabels left bytes
    → Place text labels label (printed_after left bytes)
    → Ends text (labels ++ (n ∷ (label ++ bytes)))
ends_after text labels label n left [] is some all are place = absurd are
ends_after text labels label n (suc left) (byte ∷ bytes) is some all are place =
    let next : Place text labels (label ++ byte ∷ []) (printed_after left bytes) =
    after_symbol labels label (printed_byte byte) (printed_after left bytes) byte
    (printed_symbol byte (All-head IsOctet byte bytes all)) place in
    subst (λ l. Ends text (labels ++ (n ∷ l))) (append_assoc label (byte ∷ []) bytes)
    (ends_after text labels (label ++ byte ∷ []) n left bytes
    (omega (arith, is, length-append label (byte ∷ []))) some (All-tail IsOctet byte bytes all)
    are next)
ends_after text labels [] n zero (zero ∷ []) is some all are place = absurd (omega arith)
ends_after text labels (x ∷ label) n zero (zero ∷ []) is some all are place =
    let whole : n ≡ length (x ∷ label) = omega (arith, is) in record {
      before = labels;
      last = x ∷ label;
      place = place;
      name_is = ap (λ m. labels ++ (m ∷ ((x ∷ label) ++ 0 ∷ []))) whole;
    }
ends_after text labels label n zero (zero ∷ byte ∷ bytes) is some all are place = absurd are
ends_after text labels label n zero (suc m ∷ bytes) is some all are place =
    let whole : length label ≡ n = omega (arith, is) in
    subst (Ends text)
    (append_assoc labels (wire_label label) (suc m ∷ bytes)
    ∙ ap (λ k. labels ++ (k ∷ (label ++ (suc m ∷ bytes)))) whole)
    (ends_after text (labels ++ wire_label label) [] (suc m) (suc m) bytes (omega arith)
    (omega arith) (All-tail IsOctet (suc m) bytes all) are.1
    (after_dot labels label (printed_after (suc m) bytes) place))

-- a text that begins with a symbol is not empty
printed_some : (n : ℕ) (bytes : List ℕ) → All IsOctet bytes → AreLabels (suc n) bytes
    → printed_after (suc n) bytes ≢ []
printed_some n [] all are empty = are
printed_some n (byte ∷ bytes) all are empty =
    no_symbol [] refl (begins (printed_byte byte) (printed_after n bytes) byte
    (printed_symbol byte (All-head IsOctet byte bytes all)) (sym empty))

pub prints_its_spelling : PrintsItsSpelling
prints_its_spelling [] wire = absurd wire.labels
prints_its_spelling (zero ∷ []) wire = is_root refl refl
prints_its_spelling (zero ∷ byte ∷ bytes) wire = absurd wire.labels
prints_its_spelling (suc n ∷ bytes) wire =
    let all : All IsOctet bytes = All-tail IsOctet (suc n) bytes wire.octets in
    let end : Ends (printed_after (suc n) bytes) (suc n ∷ bytes) =
    ends_after (printed_after (suc n) bytes) [] [] (suc n) (suc n) bytes (omega arith) (omega arith)
    all wire.labels.1 at_start in
    has_labels end.before end.last (printed_some n bytes all wire.labels.1) end.place end.name_is
    wire
