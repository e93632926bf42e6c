-- Two names that one text spells are one: for the law `SpellsOneName`.
use Rattle.std.proofs.Common.{ℕ, ◌≡◌, refl, sym, ap, subst, ◌∙◌, List, [], ◌∷◌, ◌++◌}
use Rattle.dnssec_base.specs.NameText.{Place, at_start, after_dot, is_root, has_labels, wire_end}
use Rattle.dnssec_base.specs.NameText.{root_text}
use Rattle.dnssec_base.specs.{WireName.AreLabels, WireName.IsWireName, NameLaws.SpellsOneName}
use Rattle.dnssec_base.proofs.Places.{Spot, spot, one_place}

-- two ends of a text are one
one_end : (text before last before' last' : List ℕ) → Place text before last []
    → Place text before' last' []
    → before ++ wire_end last ≡ before' ++ wire_end last'
one_end text before last before' last' place other =
    ap (λ (v : Spot). v.labels ++ wire_end v.label)
    (one_place text (spot before last []) (spot before' last' []) refl place other)

-- the root's text has no labels
no_labels : (text before last name : List ℕ) → text ≡ root_text → Place text before last []
    → name ≡ before ++ wire_end last
    → IsWireName name → ⊥
no_labels text before last name root place is wire =
    subst (AreLabels 0) (is ∙ one_end root_text before last (0 ∷ []) []
    (subst (λ t. Place t before last []) root place) (after_dot [] [] [] at_start)) wire.labels

pub spells_one_name : SpellsOneName
spells_one_name text name other (is_root t n) (is_root t' n') = n ∙ sym n'
spells_one_name text name other (is_root t n) (has_labels before last some place is wire) =
    absurd (no_labels text before last other t place is wire)
spells_one_name text name other (has_labels before last some place is wire) (is_root t n) =
    absurd (no_labels text before last name t place is wire)
spells_one_name text name other (has_labels before last some place is wire)
    (has_labels before' last' some' place' is' wire') =
    is ∙ one_end text before last before' last' place place' ∙ sym is'
