-- A text begins with one symbol at most, which the code finds: for `from_str` and the laws.
use Rattle.std.proofs.Common.{ℕ, suc, ◌≡◌, ◌≢◌, ◌⊎◌, ◌<◌, ◌≤◌, refl, sym, ap, subst, ◌∙◌, inl, inr}
use Rattle.std.proofs.Common.{⊎_elim, List, [], ◌∷◌, ◌++◌, length, Option, Some, None, Bool}
use Rattle.std.proofs.Common.{if◌then◌else◌, ◌&&◌, ◌==◌, nat_le, arith}
use Rattle.std.proofs.lemmas.Bool.{cases_eq, cases_lt, Decides.nat_tests}
use Rattle.std.specs.Option.{option_map_or}
use Rattle.dnssec_base.specs.NameText.{IsSymbol, plain, escaped, decimal, dot, backslash}
use Rattle.dnssec_base.specs.NameText.{decimal_of, IsDigit, IsVisible, BeginsWithSymbol, is_visible}
use Rattle.dnssec_base.specs.Inner.Pieces.{IsDecimal, IsEscape, IsPiece}
use Rattle.dnssec_base.specs.declared.name.piece.NamePiece.TheVariants.{Byte}

-- ---- the symbol at the front of a text is computed

-- whether a character is a digit
abbrev is_digit : ℕ → Bool
is_digit x = nat_le 48 x && nat_le x 57

-- the byte that a digit and two more write, and the text after them
abbrev decimal_front : ℕ → List ℕ → Option (ℕ × List ℕ)
decimal_front x (y ∷ z ∷ text) =
    if is_digit y && (is_digit z && nat_le (decimal_of x y z) 255)
    then Some (decimal_of x y z, text) else None
decimal_front x _ = None

-- the byte of an escape, without its backslash, and the text after it
abbrev escape_front : List ℕ → Option (ℕ × List ℕ)
escape_front [] = None
escape_front (x ∷ text) =
    if is_digit x then decimal_front x text
    else (if nat_le 0x20 x && nat_le x 0x7E then Some (x, text) else None)

-- the byte of a symbol, and the text after it
abbrev pub symbol_front : List ℕ → Option (ℕ × List ℕ)
symbol_front [] = None
symbol_front (c ∷ text) =
    if c == dot then None
    else (if c == backslash then escape_front text
    else (if is_visible c then Some (c, text) else None))

-- a number between two others, or outside them
pub within : (low high x : ℕ) → ((low ≤ x) × (x ≤ high)) ⊎ ((x < low) ⊎ (high < x))
within low high x = ⊎_elim
    (λ below. inr (inl below))
    (λ from. ⊎_elim (λ to. inl (from, omega (arith, to))) (λ above. inr (inr above))
    (cases_lt x (suc high)))
    (cases_lt x low)

-- a symbol is found
pub symbol_found : (s r : List ℕ) (b : ℕ) → IsSymbol s b → symbol_front (s ++ r) ≡ Some (b, r)
symbol_found s r b (plain x visible no_dot no_backslash) = grind (arith, nat_tests)
symbol_found s r b (escaped x low high no_digit) = ⊎_elim
    (λ digit. absurd (no_digit digit))
    (λ out. grind (arith, nat_tests))
    (within 48 57 x)
symbol_found s r b (decimal x y z dx dy dz fits) = grind (arith, nat_tests)

-- no symbol stands where none is found
pub no_symbol : (text : List ℕ) → symbol_front text ≡ None → BeginsWithSymbol text → ⊥
no_symbol text none front =
    let found : symbol_front text ≡ Some (front.byte, front.after) =
    ap symbol_front front.split ∙ symbol_found front.symbol front.after front.byte front.is in cc

-- two symbols at one front are one
pub one_symbol : (s s' t t' : List ℕ) (b b' : ℕ) → IsSymbol s b → IsSymbol s' b' → s ++ t ≡ s' ++ t'
    → (b ≡ b') × (t ≡ t')
one_symbol s s' t t' b b' is is' e =
    let same : Some (b, t) ≡ Some (b', t') =
    sym (symbol_found s t b is) ∙ ap symbol_front e ∙ symbol_found s' t' b' is' in (
      ap (λ o. option_map_or (λ (f : ℕ × List ℕ). f.0) o 0) same,
      ap (λ o. option_map_or (λ (f : ℕ × List ℕ). f.1) o []) same,
    )

-- a text begins with a symbol
pub begins : {text : List ℕ} (s r : List ℕ) (b : ℕ) → IsSymbol s b → text ≡ s ++ r
    → BeginsWithSymbol text
begins s r b is e = record { symbol = s; after = r; byte = b; is = is; split = e }

-- a digit begins an escape, or none is found
three_or_not : (x : ℕ) (text : List ℕ) → IsDigit x
    → BeginsWithSymbol (backslash ∷ x ∷ text) ⊎ (escape_front (x ∷ text) ≡ None)
three_or_not x [] digit = inr (grind (arith, nat_tests))
three_or_not x (y ∷ []) digit = inr (grind (arith, nat_tests))
three_or_not x (y ∷ z ∷ text) digit = ⊎_elim
    (λ dy. ⊎_elim
    (λ dz. ⊎_elim
    (λ fits. inl (begins (backslash ∷ x ∷ y ∷ z ∷ []) text (decimal_of x y z)
    (decimal x y z digit dy dz (omega (arith, fits))) refl))
    (λ large. inr (grind (arith, nat_tests)))
    (cases_lt (decimal_of x y z) 256))
    (λ out. inr (grind (arith, nat_tests)))
    (within 48 57 z))
    (λ out. inr (grind (arith, nat_tests)))
    (within 48 57 y)

-- after a backslash an escape, or none is found
escape_or_not : (text : List ℕ)
    → BeginsWithSymbol (backslash ∷ text) ⊎ (symbol_front (backslash ∷ text) ≡ None)
escape_or_not [] = inr refl
escape_or_not (x ∷ text) = ⊎_elim
    (λ digit. three_or_not x text digit)
    (λ no_digit. ⊎_elim
    (λ printable. inl (begins (backslash ∷ x ∷ []) text x
    (escaped x printable.0 printable.1 (λ digit. ⊎_elim (λ low. omega (arith, low, digit))
    (λ high. omega (arith, high, digit)) no_digit)) refl))
    (λ out. inr (grind (arith, nat_tests)))
    (within 0x20 0x7E x))
    (within 48 57 x)

-- a symbol stands at the front, or none is found
pub symbol_or_not : (text : List ℕ) → BeginsWithSymbol text ⊎ (symbol_front text ≡ None)
symbol_or_not [] = inr refl
symbol_or_not (c ∷ text) = ⊎_elim
    (λ is_dot. inr (ap (λ v. symbol_front (v ∷ text)) is_dot))
    (λ no_dot. ⊎_elim
    (λ is_backslash.
    subst (λ v. BeginsWithSymbol (v ∷ text) ⊎ (symbol_front (v ∷ text) ≡ None)) (sym is_backslash)
    (escape_or_not text))
    (λ no_backslash. ⊎_elim
    (λ visible. inl (begins (c ∷ []) text c (plain c visible no_dot no_backslash) refl))
    (λ out. inr (grind (arith, nat_tests)))
    (within 0x21 0x7E c))
    (cases_eq c backslash))
    (cases_eq c dot)

-- ---- what the code finds

-- a symbol is not empty
pub symbol_length : (s : List ℕ) (b : ℕ) → IsSymbol s b → 0 < length s
symbol_length s b (plain x visible no_dot no_backslash) = omega arith
symbol_length s b (escaped x low high no_digit) = omega arith
symbol_length s b (decimal x y z dx dy dz fits) = omega arith

-- three digits are an escape
pub decimal_escape : (byte : ℕ) (text after : List ℕ) → IsDecimal byte text after
    → IsEscape byte text after
decimal_escape byte text after d = record {
  escape = d.x ∷ d.y ∷ d.z ∷ [];
  symbol = subst (λ b. IsSymbol (backslash ∷ d.x ∷ d.y ∷ d.z ∷ []) b) (sym d.byte_is)
      (decimal d.x d.y d.z d.x_digit d.y_digit d.z_digit (subst (λ b. b ≤ 255) d.byte_is d.fits));
  text_is = d.text_is;
}

-- a printable character that is no digit is an escape
pub plain_escape : (x : ℕ) (text after : List ℕ) → text ≡ x ∷ after → 0x20 ≤ x → x ≤ 0x7E
    → ¬ IsDigit x
    → IsEscape x text after
plain_escape x text after e low high no_digit =
    record { escape = x ∷ []; symbol = escaped x low high no_digit; text_is = e }

-- an escape that begins with a digit is three of them
pub digit_escape : (x : ℕ) (text after : List ℕ) → text ≡ x ∷ after → IsDigit x
    → ((byte : ℕ) (rest : List ℕ) → ¬ IsDecimal byte text rest)
    → ¬ BeginsWithSymbol (backslash ∷ text)
digit_escape x text after e digit none front =
    go front.symbol front.after front.byte front.is front.split
  where
    go : (s t : List ℕ) (b : ℕ) → IsSymbol s b → backslash ∷ text ≡ s ++ t → ⊥
    go s t b (plain v visible nd nb) split = nb cc
    go s t b (escaped v low high no_digit) split = no_digit (let same : x ≡ v =
        cc in subst IsDigit same digit)
    go s t b (decimal u v w du dv dw fits) split = none (decimal_of u v w) t (record {
      x = u;
      y = v;
      z = w;
      text_is = cc;
      x_digit = du;
      y_digit = dv;
      z_digit = dw;
      byte_is = refl;
      fits = fits;
    })

-- a visible character that is no mark is a piece of the text
pub plain_piece : (x : ℕ) (after : List ℕ) → IsVisible x → x ≢ dot → x ≢ backslash
    → IsPiece (Byte x) (x ∷ after) after
plain_piece x after visible no_dot no_backslash =
    (x ∷ [], plain x visible no_dot no_backslash, refl)

-- what reads an escape
pub ruleset escapes = (decimal_escape, plain_escape, digit_escape)
