-- The pieces of a text, for the contracts of the reader's steps. No public clause uses them.
use Rattle.std.specs.Prelude.{◌≡◌, ◌⊎◌, ℕ, ◌≤◌, List, ◌∷◌, ◌++◌}
use Rattle.dnssec_base.specs.NameText.{IsSymbol, IsDigit, IsVisible, BeginsWith}
use Rattle.dnssec_base.specs.NameText.{BeginsWithSymbol, decimal_of, dot, backslash}
use Rattle.dnssec_base.specs.declared.name.error.NameError.{NameError}
use Rattle.dnssec_base.specs.declared.name.error.NameError.TheVariants.{BadByte, BadEscape}
use Rattle.dnssec_base.specs.declared.name.piece.NamePiece.{NamePiece}
use Rattle.dnssec_base.specs.declared.name.piece.NamePiece.TheVariants.{Dot, Byte}

-- the text is three digits that write this byte, and then this rest
pub record IsDecimal (byte : ℕ) (text after : List ℕ) : Type 0 where
  pub x : ℕ
  pub y : ℕ
  pub z : ℕ
  pub text_is : text ≡ x ∷ y ∷ z ∷ after
  pub x_digit : IsDigit x
  pub y_digit : IsDigit y
  pub z_digit : IsDigit z
  pub byte_is : byte ≡ decimal_of x y z
  pub fits : byte ≤ 255

-- after a backslash the text is a symbol for this byte, and then this rest
pub record IsEscape (byte : ℕ) (text after : List ℕ) : Type 0 where
  pub escape : List ℕ
  pub symbol : IsSymbol (backslash ∷ escape) byte
  pub text_is : text ≡ escape ++ after

-- the text is a dot, or a symbol for this byte, and then this rest
abbrev pub IsPiece : NamePiece → List ℕ → List ℕ → Type 0
IsPiece Dot text after = text ≡ dot ∷ after
IsPiece (Byte byte) text after = (symbol : List ℕ) × IsSymbol symbol byte × (text ≡ symbol ++ after)

-- the text begins neither with a dot nor with a symbol, and this is why
abbrev pub IsBadPiece : NameError → List ℕ → Type 0
IsBadPiece error text =
    ((error ≡ BadEscape) × BeginsWith (λ byte. byte ≡ backslash) text × ¬ BeginsWithSymbol text)
    ⊎ ((error ≡ BadByte) × BeginsWith (λ byte. ¬ IsVisible byte) text)
