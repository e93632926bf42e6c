-- What spells a zone name is ASCII, and so it is text.
use Rattle.std.proofs.Common.{◌≡◌, ℕ, ◌∙◌, ◌++◌, [], ◌∷◌, true, List, refl, ap, arith, subst, sym}
use Rattle.std.proofs.Common.{drop}
use Rattle.std.specs.Prelude.{Option, Some, None, IfNone, codes}
use Rattle.std.specs.{List.list_all, Str.IsUtf8}
use Rattle.dnssec_base.specs.NameText.{Spells, is_root, has_labels, Place, at_start, after_symbol}
use Rattle.dnssec_base.specs.NameText.{after_dot, IsSymbol, plain, escaped, decimal, dot}
use Rattle.dnssec_base.specs.NameText.{StandsFirst}
use Rattle.dnssec_base.specs.declared.name.error.NameError.{NameError}
use Rattle.dnssec_base.proofs.NoFault.{spells_no_fault}
use Rattle.dnssec_script.specs.Script.{IsZoneLine}
use Rattle.dnssec_script.proofs.Ascii.{is_below, ascii_utf8, one_below}

symbol_below : (symbol : List ℕ) (byte : ℕ) (after : List ℕ) → IsSymbol symbol byte
    → list_all is_below after ≡ true → list_all is_below (symbol ++ after) ≡ true
symbol_below _ _ after (plain x visible undotted unescaped) rest = one_below x after visible.1 rest
symbol_below _ _ after (escaped x above le undigit) rest =
    one_below 92 (x ∷ after) (omega arith) (one_below x after le rest)
symbol_below _ _ after (decimal x y z dx dy dz le) rest =
    one_below 92 (x ∷ y ∷ z ∷ after) (omega arith) (one_below x (y ∷ z ∷ after)
    (omega (arith, dx.1)) (one_below y (z ∷ after) (omega (arith, dy.1))
    (one_below z after (omega (arith, dz.1)) rest)))

place_below : (text labels label after : List ℕ) → Place text labels label after
    → list_all is_below after ≡ true → list_all is_below text ≡ true
place_below text _ _ _ at_start rest = rest
place_below text _ _ _ (after_symbol labels label symbol after byte is place) rest =
    place_below text labels label (symbol ++ after) place (symbol_below symbol byte after is rest)
place_below text _ _ _ (after_dot labels label after place) rest =
    place_below text labels label (dot ∷ after) place (one_below 46 after (omega arith) rest)

spelled_below : (text name : List ℕ) → Spells text name → list_all is_below text ≡ true
spelled_below text name (is_root t n) = subst (λ t. list_all is_below t ≡ true) (sym t) refl
spelled_below text name (has_labels before last some place n wire) =
    place_below text before last [] place refl

pub spelled_utf8 : (text name : List ℕ) → Spells text name → IsUtf8 text
spelled_utf8 text name spelled = ascii_utf8 text (spelled_below text name spelled)

-- if a fault stands in a text, it spells no name
pub faulty : (text : List ℕ) (fault : NameError) → StandsFirst text fault
    → (name : List ℕ) → ¬ Spells text name
faulty text fault first name spelled =
    (spells_no_fault text name spelled).none fault first.place first.stands

-- if the text after the word spells no name, the line has none
pub zone_none : (line text : List ℕ) → line ≡ codes "zone " ++ text → (o : Option (List ℕ))
    → IfNone o ((name : List ℕ) → ¬ Spells text name)
    → IfNone o ((name : List ℕ) → ¬ IsZoneLine line name)
zone_none line text split (Some name) spelled = tt
zone_none line text split None spelled = λ name is.
    let same : text ≡ is.0 = ap (drop 5) (sym split ∙ is.1) in
    spelled name (subst (λ t. Spells t name) (sym same) is.2)
