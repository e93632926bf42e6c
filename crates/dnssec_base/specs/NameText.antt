-- Which text spells a zone name, where a fault stands in it, and how a name is printed.
use Rattle.std.specs.Prelude.{◌≡◌, ◌≢◌, ◌⊎◌, ℕ, zero, suc, ◌+◌, ◌-◌, ◌*◌, ◌/◌, ◌%◌, ◌<◌, ◌≤◌}
use Rattle.std.specs.Prelude.{List, [], ◌∷◌, ◌++◌, length, nat_le, ◌==◌, ◌&&◌, ◌||◌, Bool}
use Rattle.std.specs.Prelude.{if◌then◌else◌, codes}
use Rattle.dnssec_base.specs.WireName.{IsWireName, wire_label}
use Rattle.dnssec_base.specs.declared.name.error.NameError.{NameError}
use Rattle.dnssec_base.specs.declared.name.error.NameError.TheVariants.{EmptyLabel, LongLabel}
use Rattle.dnssec_base.specs.declared.name.error.NameError.TheVariants.{LongName, BadEscape}
use Rattle.dnssec_base.specs.declared.name.error.NameError.TheVariants.{BadByte, OutOfMemory}

-- the character `.`, which ends a label. RFC 1035, section 5.1
abbrev pub dot : ℕ
dot = 46

-- the character `\`, which begins an escape. RFC 1035, section 5.1
abbrev pub backslash : ℕ
backslash = 92

-- the text of the root. RFC 1035, section 5.1
abbrev pub root_text : List ℕ
root_text = dot ∷ []

-- the wire bytes of the root. RFC 1035, section 3.1
abbrev pub root_name : List ℕ
root_name = 0 ∷ []

-- a visible character, from `!` to `~`. RFC 1035, section 5.1
abbrev pub IsVisible : ℕ → Type 0
IsVisible byte = (0x21 ≤ byte) × (byte ≤ 0x7E)

-- a digit of an escape, from 0 to 9. RFC 1035, section 5.1
abbrev pub IsDigit : ℕ → Type 0
IsDigit byte = (48 ≤ byte) × (byte ≤ 57)

-- the number that three digits of an escape write. RFC 1035, section 5.1
abbrev pub decimal_of : ℕ → ℕ → ℕ → ℕ
decimal_of x y z = 100 * (x - 48) + 10 * (y - 48) + (z - 48)

-- A symbol, and the byte of a label that it stands for. RFC 1035, section 5.1
pub data IsSymbol : List ℕ → ℕ → Type 0 where
  -- a visible character stands for itself, except the dot and the backslash
  plain : (x : ℕ) → IsVisible x → x ≢ dot → x ≢ backslash → IsSymbol (x ∷ []) x
  -- `\X`: after a backslash a space, or a visible character that is no digit, stands for itself
  escaped : (x : ℕ) → 0x20 ≤ x → x ≤ 0x7E → ¬ IsDigit x → IsSymbol (backslash ∷ x ∷ []) x
  -- `\DDD`: after a backslash three digits stand for the byte that they write
  decimal : (x y z : ℕ) → IsDigit x → IsDigit y → IsDigit z → decimal_of x y z ≤ 255
      → IsSymbol (backslash ∷ x ∷ y ∷ z ∷ []) (decimal_of x y z)

-- A place in the text. Before it stand labels as on the wire, each ended by a dot, and the bytes so
-- far of one more; after it this text. RFC 1035, section 5.1
pub data Place (text : List ℕ) : List ℕ → List ℕ → List ℕ → Type 0 where
  at_start : Place text [] [] text
  after_symbol : (labels label symbol after : List ℕ) (byte : ℕ) → IsSymbol symbol byte
      → Place text labels label (symbol ++ after) → Place text labels (label ++ byte ∷ []) after
  after_dot : (labels label after : List ℕ) → Place text labels label (dot ∷ after)
      → Place text (labels ++ wire_label label) [] after

-- the last label and the root on the wire; after a final dot only the root. RFC 1035, section 3.1
abbrev pub wire_end : List ℕ → List ℕ
wire_end [] = root_name
wire_end (byte ∷ label) = wire_label (byte ∷ label) ++ root_name

-- the text is the root's dot, or symbols and dots that give a wire name. RFC 1035, section 5.1
pub data Spells (text name : List ℕ) : Type 0 where
  is_root : text ≡ root_text → name ≡ root_name → Spells text name
  has_labels : (before last : List ℕ) → text ≢ [] → Place text before last []
      → name ≡ before ++ wire_end last → IsWireName name → Spells text name

-- what is said of the first character of a text
abbrev pub BeginsWith : (ℕ → Type 0) → List ℕ → Type 0
BeginsWith P [] = ⊥
BeginsWith P (byte ∷ text) = P byte

-- a symbol stands at the front of the text. RFC 1035, section 5.1
pub record BeginsWithSymbol (text : List ℕ) : Type 0 where
  pub symbol : List ℕ
  pub after : List ℕ
  pub byte : ℕ
  pub is : IsSymbol symbol byte
  pub split : text ≡ symbol ++ after

-- The fault at a place: before it these labels and bytes of one more, after it this text.
abbrev pub IsFault : NameError → List ℕ → List ℕ → List ℕ → Type 0
-- no text at all, or a dot that ends a label without bytes. RFC 1035, section 3.1
IsFault EmptyLabel labels label after =
    (label ≡ []) × ((labels ++ after ≡ []) ⊎ BeginsWith (λ byte. byte ≡ dot) after)
-- a symbol for the 64th byte of a label. RFC 1035, section 2.3.4
IsFault LongLabel labels label after = BeginsWithSymbol after × (length label ≡ 63)
-- a symbol whose byte, with the root, takes the name past 255 bytes. RFC 1035, section 2.3.4
IsFault LongName labels label after =
    BeginsWithSymbol after × (255 < length (labels ++ wire_label label) + 2)
-- a backslash that begins no escape. RFC 1035, section 5.1
IsFault BadEscape labels label after =
    BeginsWith (λ byte. byte ≡ backslash) after × ¬ BeginsWithSymbol after
-- a space, a control character, or a character that is not ASCII. RFC 1035, section 5.1
IsFault BadByte labels label after = BeginsWith (λ byte. ¬ IsVisible byte) after
IsFault OutOfMemory labels label after = ⊥

-- a fault stands at the place after this many bytes of the text, which is not the root's
pub record Stands (text : List ℕ) (fault : NameError) (place : ℕ) : Type 0 where
  pub other : text ≢ root_text
  pub labels : List ℕ
  pub label : List ℕ
  pub after : List ℕ
  pub at : Place text labels label after
  pub is : IsFault fault labels label after
  pub place_is : place + length after ≡ length text

-- the fault stands first; at the same place a long label goes before a long name
pub record StandsFirst (text : List ℕ) (fault : NameError) : Type 0 where
  pub place : ℕ
  pub stands : Stands text fault place
  pub first : (other : NameError) (elsewhere : ℕ) → Stands text other elsewhere → place ≤ elsewhere
  pub label_first : fault ≡ LongName → ¬ Stands text LongLabel place

-- no fault stands in the text
pub record HasNoFault (text : List ℕ) : Type 0 where
  pub none : (fault : NameError) (place : ℕ) → ¬ Stands text fault place

-- whether a character is visible
abbrev pub is_visible : ℕ → Bool
is_visible byte = nat_le 0x21 byte && nat_le byte 0x7E

-- a printed byte: a mark escaped, another visible one as it is, else its number. RFC 1035, 5.1
abbrev pub printed_byte : ℕ → List ℕ
printed_byte byte =
    if byte == dot || byte == backslash then backslash ∷ byte ∷ []
    else if is_visible byte then byte ∷ []
    else backslash ∷ (48 + byte / 100) ∷ (48 + byte / 10 % 10) ∷ (48 + byte % 10) ∷ []

-- what is printed of `left` more bytes of a label, and of the labels after it, a dot before each
abbrev pub printed_after : ℕ → List ℕ → List ℕ
printed_after left [] = []
printed_after (suc left) (byte ∷ bytes) = printed_byte byte ++ printed_after left bytes
printed_after zero (zero ∷ bytes) = []
printed_after zero (suc n ∷ bytes) = dot ∷ printed_after (suc n) bytes

-- the printed text of a name: the root's dot, or labels with dots between. RFC 1035, section 5.1
abbrev pub name_text : List ℕ → List ℕ
name_text [] = []
name_text (zero ∷ bytes) = root_text
name_text (suc n ∷ bytes) = printed_after (suc n) bytes

-- the printed text of a fault
abbrev pub fault_text : NameError → List ℕ
fault_text EmptyLabel = codes "empty label"
fault_text LongLabel = codes "label longer than 63 bytes"
fault_text LongName = codes "name longer than 255 bytes"
fault_text BadEscape = codes "illegal escape"
fault_text BadByte = codes "illegal character"
fault_text OutOfMemory = codes "out of memory"
