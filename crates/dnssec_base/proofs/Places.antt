-- A text has one way through its places, from start to end: for the first fault and the laws.
use Rattle.std.proofs.Common.{ℕ, ◌≡◌, ◌⊎◌, ◌<◌, ◌≤◌, refl, sym, ap, subst, ◌∙◌, inl, inr, ⊎_elim}
use Rattle.std.proofs.Common.{List, [], ◌∷◌, ◌++◌, length, length-append, arith}
use Rattle.dnssec_base.specs.WireName.{wire_label}
use Rattle.dnssec_base.specs.NameText.{IsSymbol, dot, Place, at_start, after_symbol, after_dot}
use Rattle.dnssec_base.proofs.Symbols.{one_symbol, no_symbol, symbol_front, symbol_length, begins}

-- a place: the labels before it, the bytes so far of one more, and the text after it
pub record Spot : Type 0 where
  pub labels : List ℕ
  pub label : List ℕ
  pub after : List ℕ

abbrev pub spot : List ℕ → List ℕ → List ℕ → Spot
spot labels label after = record { labels = labels; label = label; after = after }

-- it is a place of this text
abbrev pub At : List ℕ → Spot → Type 0
At text p = Place text p.labels p.label p.after

-- from one place to the next
pub data Step (p q : Spot) : Type 0 where
  by_symbol : (s : List ℕ) (b : ℕ) → IsSymbol s b → p.after ≡ s ++ q.after → q.labels ≡ p.labels
      → q.label ≡ p.label ++ b ∷ [] → Step p q
  by_dot : p.after ≡ dot ∷ q.after → q.labels ≡ p.labels ++ wire_label p.label → q.label ≡ []
      → Step p q

-- a place is another, or lies ahead of it
pub data Ahead (q : Spot) : Spot → Type 0 where
  here : (p : Spot) → q ≡ p → Ahead q p
  on : (p next : Spot) → Step p next → Ahead q next → Ahead q p

-- the next place is a place of the text
pub step_at : (text : List ℕ) (p q : Spot) → Step p q → At text p → At text q
step_at text p q (by_symbol s b is e labels label) place =
    rw (labels, label) (after_symbol p.labels p.label s q.after b is
    (subst (Place text p.labels p.label) e place))
step_at text p q (by_dot e labels label) place =
    rw (labels, label) (after_dot p.labels p.label q.after
    (subst (Place text p.labels p.label) e place))

-- it has less text after it
step-length : (p q : Spot) → Step p q → length q.after < length p.after
step-length p q (by_symbol s b is e labels label) =
    omega (arith, ap length e, length-append s q.after, symbol_length s b is)
step-length p q (by_dot e labels label) = omega (arith, ap length e)

-- and is the only next place
one_step : (p q r : Spot) → Step p q → Step p r → q ≡ r
one_step p q r (by_symbol s b is e labels label) (by_symbol s' b' is' e' labels' label') =
    let same = one_symbol s s' q.after r.after b b' is is' (sym e ∙ e') in λ i. record {
      labels = (labels ∙ sym labels') i;
      label = (label ∙ ap (λ v. p.label ++ v ∷ []) same.0 ∙ sym label') i;
      after = same.1 i;
    }
one_step p q r (by_symbol s b is e labels label) (by_dot e' labels' label') =
    absurd (no_symbol p.after (ap symbol_front e') (begins s q.after b is e))
one_step p q r (by_dot e labels label) (by_symbol s b is e' labels' label') =
    absurd (no_symbol p.after (ap symbol_front e) (begins s r.after b is e'))
one_step p q r (by_dot e labels label) (by_dot e' labels' label') =
    let same : q.after ≡ r.after = cc in λ i. record {
      labels = (labels ∙ sym labels') i;
      label = (label ∙ sym label') i;
      after = same i;
    }

-- one more step ahead
ahead_step : (q next p : Spot) → Step q next → Ahead q p → Ahead next p
ahead_step q next p step (here x same) =
    on p next (subst (λ v. Step v next) same step) (here next refl)
ahead_step q next p step (on x m first rest) = on p m first (ahead_step q next m step rest)

-- each place of a text lies ahead of its start
ahead_from : (text labels label after : List ℕ) → Place text labels label after
    → Ahead (spot labels label after) (spot [] [] text)
ahead_from text labels label after at_start = here (spot [] [] text) refl
ahead_from text labels label after (after_symbol ls l s t b is place) =
    ahead_step (spot ls l (s ++ t)) (spot ls (l ++ b ∷ []) t) (spot [] [] text)
    (by_symbol s b is refl refl refl) (ahead_from text ls l (s ++ t) place)
ahead_from text labels label after (after_dot ls l t place) =
    ahead_step (spot ls l (dot ∷ t)) (spot (ls ++ wire_label l) [] t) (spot [] [] text)
    (by_dot refl refl refl) (ahead_from text ls l (dot ∷ t) place)

pub ahead_start : (text : List ℕ) (p : Spot) → At text p → Ahead p (spot [] [] text)
ahead_start text p place = ahead_from text p.labels p.label p.after place

-- what lies ahead of a place is that place, or lies ahead of the next
pub past : (q p next : Spot) → Step p next → Ahead q p → (q ≡ p) ⊎ Ahead q next
past q p next step (here x same) = inl same
past q p next step (on x m first rest) =
    inr (subst (Ahead q) (one_step p m next first step) rest)

-- how much text is after a place
abbrev pub left : Spot → ℕ
left p = length p.after

-- a place ahead has no more text after it
pub ahead-length : (q p : Spot) → Ahead q p → left q ≤ left p
ahead-length q p (here x same) = omega (arith, ap left same)
ahead-length q p (on x next step rest) =
    omega (arith, ahead-length q next rest, step-length p next step)

-- a place ahead with as much text after it is the same
pub ahead_same : (q p : Spot) → Ahead q p → left p ≤ left q → q ≡ p
ahead_same q p (here x same) h = same
ahead_same q p (on x next step rest) h =
    absurd (omega (arith, ahead-length q next rest, step-length p next step))

-- of two places ahead of one the later lies ahead of the other
later_ahead : (q m p : Spot) → left q ≤ left m → Ahead m p → Ahead q p → Ahead q m
later_ahead q m p h (here x same) other = subst (Ahead q) (sym same) other
later_ahead q m p h (on x next step rest) other = ⊎_elim
    (λ same. absurd (omega (
      arith,
      ap left same,
      ahead-length m next rest,
      step-length p next step,
    )))
    (λ further. later_ahead q m next h rest further)
    (past q p next step other)

-- so it is with two places of a text
pub later : (text : List ℕ) (q m : Spot) → At text q → At text m → left q ≤ left m → Ahead q m
later text q m at_q at_m h =
    later_ahead q m (spot [] [] text) h (ahead_start text m at_m) (ahead_start text q at_q)

-- two places of a text with as much text after them are one
pub one_place : (text : List ℕ) (q p : Spot) → left q ≡ left p → At text q → At text p → q ≡ p
one_place text q p h at_q at_p =
    ahead_same q p (later text q p at_q at_p (omega (arith, h))) (omega (arith, h))
