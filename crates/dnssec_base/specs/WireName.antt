-- What a zone name is on the wire.
use Rattle.std.specs.Prelude.{ℕ, zero, suc, ◌<◌, ◌≤◌, List, [], ◌∷◌, length, All}

-- First `left` more bytes of a label. Then labels, each a length byte of 1 to 63 and that many
-- bytes. Last the zero byte of the root. RFC 1035, section 3.1
abbrev pub AreLabels : ℕ → List ℕ → Type 0
AreLabels left [] = ⊥
AreLabels (suc left) (byte ∷ bytes) = AreLabels left bytes
AreLabels zero (zero ∷ []) = Unit {0}
AreLabels zero (zero ∷ byte ∷ bytes) = ⊥
AreLabels zero (suc n ∷ bytes) = (n < 63) × AreLabels (suc n) bytes

-- Whole labels up to the root, of at most 255 bytes. RFC 1035, sections 2.3.4 and 3.1
pub record IsWireName (bytes : List ℕ) : Type 0 where
  pub labels : AreLabels zero bytes
  pub octets : All (λ byte. byte < 256) bytes
  pub fits : length bytes ≤ 255

-- A label with its length byte before it. RFC 1035, section 3.1
abbrev pub wire_label : List ℕ → List ℕ
wire_label label = length label ∷ label

-- A label has 1 to 63 bytes. RFC 1035, section 2.3.4
pub record IsLabel (label : List ℕ) : Type 0 where
  pub some : 0 < length label
  pub fits : length label ≤ 63
