-- The sets that caches may hold of one kind, by their spans: neighbouring positions that publish
-- the same set form one.
use Rattle.std.specs.Prelude.{◌≡◌, ℕ, ◌<◌, ◌≤◌, Bool, ◌||◌, true, List, [], ◌∷◌, ◌++◌, nat_lt}
use Rattle.std.specs.Prelude.{if◌then◌else◌, Option, None, Some}
use Rattle.std.specs.List.{Contains, list_all, list_any}
use Rattle.dnssec_judge.specs.{Bits.has_bit, Sets.Numbered}
use Rattle.dnssec_judge.specs.declared.window.spans.Span.{Span}

-- the spans are of all positions from the first one's up to n
abbrev pub Tiles : (ℕ → Numbered) → ℕ → List Span → Type 0
Tiles at n [] = ⊥
Tiles at n (s ∷ []) = (s.from ≤ n) × ((q : ℕ) → s.from ≤ q → q ≤ n → s.set ≡ at q)
Tiles at n (s ∷ t ∷ ss) = (s.from < t.from) ×
    ((q : ℕ) → s.from ≤ q → q < t.from → s.set ≡ at q) × Tiles at n (t ∷ ss)

-- the first span begins at the floor or below it, and the second, if any, above it
abbrev pub Begins : ℕ → List Span → Type 0
Begins floor [] = ⊥
Begins floor (s ∷ []) = s.from ≤ floor
Begins floor (s ∷ t ∷ ss) = (s.from ≤ floor) × (floor < t.from)

-- the position at which the last span begins: the set came there
abbrev pub came : List Span → ℕ
came [] = 0
came (s ∷ []) = s.from
came (s ∷ t ∷ ss) = came (t ∷ ss)

-- and its set
abbrev pub latest : List Span → Numbered
latest [] = (0 ∷ [], 0 ∷ [])
latest (s ∷ []) = s.set
latest (s ∷ t ∷ ss) = latest (t ∷ ss)

-- the span before the first call: nothing is published
abbrev pub first_span : Span
first_span = record { from = 0; set = (0 ∷ [], 0 ∷ []) }

-- a span begins at a position, if another set is handed in
abbrev pub noted : Option Numbered → ℕ → List Span → List Span
noted None at ss = ss
noted (Some set) at ss = ss ++ record { from = at; set = set } ∷ []

-- without the spans that lie below the floor
abbrev pub trimmed : ℕ → List Span → List Span
trimmed floor [] = []
trimmed floor (s ∷ []) = s ∷ []
trimmed floor (s ∷ t ∷ ss) =
    if nat_lt floor t.from then s ∷ t ∷ ss else trimmed floor (t ∷ ss)

-- a set has only keys and signers that another has too
pub record IsWithin (p q : Numbered) : Type 0 where
  pub keys : (n : ℕ) → has_bit p.0 n ≡ true → has_bit q.0 n ≡ true
  pub signers : (n : ℕ) → has_bit p.1 n ≡ true → has_bit q.1 n ≡ true

-- a key with this number is in a set of the spans, or signs one
abbrev pub in_spans : List Span → ℕ → Bool
in_spans ss number = list_any (λ s. has_bit s.set.0 number || has_bit s.set.1 number) ss

-- ---- tests

-- whether each set of the spans passes the test
abbrev pub all_in : List Span → (Numbered → Bool) → Bool
all_in ss test = list_all (λ s. test s.set) ss

-- whether any set of the one and any of the other pass the test
abbrev pub pairs_hold : (Numbered → Numbered → Bool) → List Span → List Span → Bool
pairs_hold holds ps qs = all_in ps (λ p. all_in qs (holds p))

-- whether each set that came at a position or later passes the test with all of the others
abbrev pub new_hold : ℕ → (Numbered → Numbered → Bool) → List Span → List Span → Bool
new_hold tested holds ps qs =
    list_all (λ p. nat_lt p.from tested || all_in qs (holds p.set)) ps

-- each set is that of a span that came before this position
abbrev pub AreOld : ℕ → List Span → Type 0
AreOld tested ss = (s : Span) → Contains ss s →
    (t : Span) × Contains ss t × (t.from < tested) × (t.set ≡ s.set)

-- any two that came before this position pass the test
abbrev pub PairsTested : ℕ → (Numbered → Numbered → Bool) → List Span → List Span → Type 0
PairsTested tested holds ps qs = (p q : Span) → Contains ps p → Contains qs q →
    p.from < tested → q.from < tested → holds p.set q.set ≡ true
