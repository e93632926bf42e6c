-- A label at the front of wire bytes may be skipped as a whole: for `from_octets`.
use Rattle.std.proofs.Common.{ℕ, zero, suc, ◌≡◌, ◌<◌, ◌≤◌, ◌↔◌, refl, List, [], ◌∷◌, ◌++◌, length}
use Rattle.std.proofs.Common.{arith}
use Rattle.dnssec_base.specs.WireName.{AreLabels, IsLabel, wire_label}

-- what is left of a label may be skipped
pub skip : (label bytes : List ℕ) → AreLabels (length label) (label ++ bytes) → AreLabels 0 bytes
skip [] bytes h = h
skip (byte ∷ label) bytes h = skip label bytes h

-- what follows a label may have it put before it
unskip : (label bytes : List ℕ) → AreLabels 0 bytes → AreLabels (length label) (label ++ bytes)
unskip [] bytes h = h
unskip (byte ∷ label) bytes h = unskip label bytes h

-- a label has all its bytes
left-le : (n : ℕ) (bytes : List ℕ) → AreLabels n bytes → n < length bytes
left-le n [] h = absurd h
left-le zero (byte ∷ bytes) h = omega arith
left-le (suc n) (byte ∷ bytes) h = let e : n < length bytes = left-le n bytes h in omega arith

-- a label at the front, and what follows it
pub label_front : (label bytes : List ℕ) → IsLabel label →
    AreLabels 0 (wire_label label ++ bytes) ↔ AreLabels 0 bytes
label_front [] bytes h = absurd (omega (arith, h.some))
label_front (byte ∷ label) bytes h =
    (λ p. skip label bytes p.1, λ p. (omega (arith, h.fits), unskip label bytes p))

-- a label that has bytes leaves one for the root
pub label_room : (n : ℕ) (bytes : List ℕ) → 0 < n → AreLabels 0 (n ∷ bytes)
    → (n ≤ 63) × (n < length bytes)
label_room zero bytes some h = absurd (omega arith)
label_room (suc n) bytes some h = (omega arith, left-le (suc n) bytes h.1)

-- no label is longer than 63 bytes, or than the bytes that follow its length
pub label_bounds : (n : ℕ) (bytes : List ℕ) → AreLabels 0 (n ∷ bytes)
    → (n ≤ 63) × (n ≤ length bytes)
label_bounds zero bytes h = (omega arith, omega arith)
label_bounds (suc n) bytes h =
    let e = label_room (suc n) bytes (omega arith) h in (e.0, omega (arith, e.1))

-- nothing follows the root
pub root_last : (bytes : List ℕ) → AreLabels 0 (0 ∷ bytes) → 0 ∷ bytes ≡ 0 ∷ []
root_last [] h = refl
root_last (byte ∷ bytes) h = absurd h

-- the front of wire bytes
pub ruleset front = (label_bounds, root_last)
