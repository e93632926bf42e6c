-- A window over a table with more keys, or with fewer that no set has, for the judge.
use Rattle.dnssec_judge.proofs.Base.{[], ℕ, ◌||◌, ◌∙◌, ◌∷◌, ◌≡◌, ◌≤◌, ap, arith, Begins, cases_lt}
use Rattle.dnssec_judge.proofs.Base.{Contains, Entry, floor_up_to, has_bit, Id, in_window, inl, inr}
use Rattle.dnssec_judge.proofs.Base.{Keys, List, Numbered, or_left, or_right, SetKind, Span}
use Rattle.dnssec_judge.proofs.Base.{spans_of, Stands, Tiles, time_at, true, Watches, Window}
use Rattle.dnssec_judge.proofs.{Means.means-on, Verdicts.Floors.retired-below}
use Rattle.dnssec_run.proofs.Chain.History.{never-gone-now}
use Rattle.std.proofs.lemmas.List.Elements.{Contains-append_left, Contains-append_right}
use Rattle.std.proofs.lemmas.List.Elements.{Contains-push}
use Rattle.std.proofs.lemmas.List.Folds.{list_any-from_Any}

-- a floor is a position so far
floor-within : (entries : List Entry) (kind : SetKind) (n : ℕ)
    → floor_up_to entries kind (time_at entries n) n ≤ n
floor-within entries kind n = elim (cases_lt n (floor_up_to entries kind (time_at entries n) n)) [
  | inl lt ↦ absurd (never-gone-now entries kind n ((retired-below entries kind n n).1 lt))
  | inr ge ↦ omega arith
]

pub low : (es : List Entry) (kind : SetKind) (n : ℕ) (key : Keys) (w : Window)
    → Watches es kind n key w → w.floor ≤ n
low es kind n key w h = omega (arith, h.floor, floor-within es kind n)

-- the set of a position is that of a span
set-from : (at : ℕ → Numbered) (n q : ℕ) (s : Span) (ss : List Span) → Tiles at n (s ∷ ss)
    → s.from ≤ q → q ≤ n → (t : Span) × Contains (s ∷ ss) t × (t.set ≡ at q)
set-from at n q s [] h ge le = (s, Contains-push [] s, h.1 q ge le)
set-from at n q s (t ∷ ss) h ge le = elim (cases_lt q t.from) [
  | inl lt ↦ (s, Contains-append_left (s ∷ []) (t ∷ ss) s (Contains-push [] s), h.1 q ge lt)
  | inr more ↦
      let g = set-from at n q t ss h.2 more le in
      (g.0, Contains-append_right (s ∷ []) (t ∷ ss) g.0 g.1, g.2)
]

set-there : (at : ℕ → Numbered) (n floor q : ℕ) (ss : List Span) → Begins floor ss
    → Tiles at n ss → floor ≤ q → q ≤ n → (s : Span) × Contains ss s × (s.set ≡ at q)
set-there at n floor q [] b h ge le = absurd h
set-there at n floor q (s ∷ []) b h ge le = set-from at n q s [] h (omega (arith, b, ge)) le
set-there at n floor q (s ∷ t ∷ ss) b h ge le =
    set-from at n q s (t ∷ ss) h (omega (arith, b.0, ge)) le

-- a window watches the same by other keys, if those of its sets keep their numbers
module _ (es : List Entry) (kind : SetKind) (n : ℕ) (key other : Keys) (w : Window)
    (kept : (m : ℕ) (k : Id) → in_window w m ≡ true → Stands key m k → Stands other m k)
    (h : Watches es kind n key w) where
  in-use : (q : ℕ) → w.floor ≤ q → q ≤ n → (m : ℕ) (k : Id)
      → (has_bit (h.numbered q).0 m || has_bit (h.numbered q).1 m) ≡ true
      → Stands key m k → Stands other m k
  in-use q ge le m k b =
      let g = set-there h.numbered n w.floor q (spans_of w) h.begins h.spans ge le in
      kept m k (list_any-from_Any (λ s. has_bit s.set.0 m || has_bit s.set.1 m) (spans_of w)
      (g.1.0, g.0, g.1.1, g.1.2, ap (λ (p : Numbered). has_bit p.0 m || has_bit p.1 m) g.2 ∙ b))

  pub watches-on : Watches es kind n other w
  watches-on = record {
    floor = h.floor;
    dues = h.dues;
    means = λ q ge le. (
      means-on key other _ _ (λ m k b. in-use q ge le m k (or_left _ _ b)) (h.means q ge le).0,
      means-on key other _ _ (λ m k b. in-use q ge le m k (or_right _ _ b)) (h.means q ge le).1,
    );
    numbered = h.numbered;
    spans = h.spans;
    begins = h.begins;
    came_at = h.came_at;
  }
