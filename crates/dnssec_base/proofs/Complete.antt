-- A text in which no fault stands is read to its end: for the law `SpellsUnlessFault`.
use Rattle.std.proofs.Common.{ℕ, zero, suc, ◌≡◌, ◌≢◌, ◌+◌, ◌<◌, ◌≤◌, refl, ap, subst, ◌∙◌, inr}
use Rattle.std.proofs.Common.{⊎_elim, List, [], ◌∷◌, ◌++◌, length, length-append, arith, None}
use Rattle.std.proofs.lemmas.Bool.{cases_eq, cases_lt}
use Rattle.dnssec_base.specs.NameText.{Spells, is_root, has_labels, HasNoFault, Place, IsSymbol}
use Rattle.dnssec_base.specs.NameText.{plain, escaped, decimal, BeginsWithSymbol, at_start}
use Rattle.dnssec_base.specs.NameText.{after_symbol, after_dot, dot, backslash, root_text}
use Rattle.dnssec_base.specs.NameText.{root_name, wire_end}
use Rattle.dnssec_base.specs.declared.name.error.NameError.TheVariants.{EmptyLabel, LongLabel}
use Rattle.dnssec_base.specs.declared.name.error.NameError.TheVariants.{LongName, BadEscape}
use Rattle.dnssec_base.specs.declared.name.error.NameError.TheVariants.{BadByte}
use Rattle.dnssec_base.specs.{WireName.wire_label, NameLaws.SpellsUnlessFault}
use Rattle.dnssec_base.proofs.Symbols.{symbol_length, symbol_front, no_symbol, symbol_or_not}
use Rattle.dnssec_base.proofs.Symbols.{begins}
use Rattle.dnssec_base.proofs.Wholes.{IsWhole, whole_start, whole_symbol, whole_dot, whole_end}
use Rattle.dnssec_base.proofs.{Places.spot, Faults.NoFault, Faults.stands_at, Reading.empty_text}

-- a symbol stands for a byte
symbol_byte : (s : List ℕ) (b : ℕ) → IsSymbol s b → b < 256
symbol_byte s b (plain x visible nd nb) = omega arith
symbol_byte s b (escaped x low high nod) = omega arith
symbol_byte s b (decimal x y z dx dy dz fits) = omega (arith, fits)

-- what is neither a dot nor a symbol is a fault
bad_front : (labels label : List ℕ) (c : ℕ) (text : List ℕ) → c ≢ dot
    → symbol_front (c ∷ text) ≡ None → NoFault (spot labels label (c ∷ text)) → ⊥
bad_front labels label c text no_dot none clean = ⊎_elim
    (λ is_backslash. clean BadEscape (is_backslash, no_symbol (c ∷ text) none))
    (λ no_backslash. clean BadByte (λ visible. no_symbol (c ∷ text) none
    (begins (c ∷ []) text c (plain c visible no_dot no_backslash) refl)))
    (cases_eq c backslash)

module _ (text : List ℕ) (some : text ≢ []) (other : text ≢ root_text) (faultless : HasNoFault text)
  where
    -- no fault stands at a place
    clean : (labels label after : List ℕ) → Place text labels label after
        → NoFault (spot labels label after)
    clean labels label after place error fault =
        faultless.none error _ (stands_at text (spot labels label after) error other place fault)

    -- how the text is read on from a place
    abbrev ReadsOn : ℕ → Type 0
    ReadsOn n = (labels label after : List ℕ) → length after ≤ n → Place text labels label after
        → IsWhole labels label → (name : List ℕ) × Spells text name

    -- from a dot on
    at_dot : (n : ℕ) → ReadsOn n → (labels label rest : List ℕ) → length rest ≤ n
        → Place text labels label (dot ∷ rest) → IsWhole labels label
        → (name : List ℕ) × Spells text name
    at_dot n on labels [] rest small place whole =
        absurd (clean labels [] (dot ∷ rest) place EmptyLabel (refl, inr refl))
    at_dot n on labels (x ∷ label) rest small place whole =
        on (labels ++ wire_label (x ∷ label)) [] rest small
        (after_dot labels (x ∷ label) rest place) (whole_dot labels (x ∷ label) whole (λ e. cc))

    -- from a symbol on
    at_symbol : (n : ℕ) → ReadsOn n → (labels label rest : List ℕ) → length rest ≤ suc n
        → Place text labels label rest → IsWhole labels label → BeginsWithSymbol rest
        → (name : List ℕ) × Spells text name
    at_symbol n on labels label rest small place whole front = ⊎_elim
        (λ in_label. ⊎_elim
        (λ in_name. on labels (label ++ front.byte ∷ []) front.after (omega (
          arith,
          small,
          ap length front.split,
          length-append front.symbol front.after,
          symbol_length front.symbol front.byte front.is,
        ))
        (after_symbol labels label front.symbol front.after front.byte front.is
        (subst (Place text labels label) front.split place))
        (whole_symbol labels label front.byte whole
        (symbol_byte front.symbol front.byte front.is) in_label (omega (arith, in_name))))
        (λ long. absurd (clean labels label rest place LongName (front, omega (arith, long))))
        (cases_lt (length (labels ++ wire_label label) + 2) 256))
        (λ full. absurd (clean labels label rest place LongLabel
        (front, omega (arith, full, whole.label_fits))))
        (cases_lt (length label) 63)

    -- from a place on, with at most n bytes of text after it
    walk : (n : ℕ) → ReadsOn n
    walk n labels label [] small place whole = (
      labels ++ wire_end label,
      has_labels labels label some place refl (whole_end labels label whole),
    )
    walk zero labels label (c ∷ rest) small place whole = absurd (omega arith)
    walk (suc n) labels label (c ∷ rest) small place whole = ⊎_elim
        (λ front. at_symbol n (walk n) labels label (c ∷ rest) small place whole front)
        (λ none. ⊎_elim
        (λ is_dot. at_dot n (walk n) labels label rest (omega arith)
        (subst (λ v. Place text labels label (v ∷ rest)) is_dot place) whole)
        (λ no_dot. absurd (bad_front labels label c rest no_dot none
        (clean labels label (c ∷ rest) place)))
        (cases_eq c dot))
        (symbol_or_not (c ∷ rest))

    from_start : (name : List ℕ) × Spells text name
    from_start = walk (length text) [] [] text (omega arith) at_start whole_start

pub spells_unless_fault : SpellsUnlessFault
spells_unless_fault text faultless = go text refl
  where
    go : (t : List ℕ) → text ≡ t → (name : List ℕ) × Spells text name
    go [] is = absurd (faultless.none EmptyLabel _ (empty_text text (ap length is)).stands)
    go (c ∷ []) is = ⊎_elim
        (λ is_dot. (root_name, is_root (is ∙ ap (λ v. v ∷ []) is_dot) refl))
        (λ no_dot. from_start text (λ e. cc (is, e)) (λ e. no_dot (cc (is, e))) faultless)
        (cases_eq c dot)
    go (c ∷ x ∷ t) is = from_start text (λ e. cc (is, e)) (λ e. cc (is, e)) faultless
