-- What is printed label by label is the printed text: for the text that a name displays.
use Rattle.std.proofs.Common.{ℕ, ◌≡◌, refl, ap, subst, ◌∙◌, sym, List, [], ◌∷◌, ◌++◌, append_assoc}
use Rattle.std.proofs.Common.{length, flat_map, arith}
use Rattle.dnssec_base.specs.WireName.{AreLabels, IsLabel, wire_label}
use Rattle.dnssec_base.proofs.WireLabels.{label_front}
use Rattle.dnssec_base.specs.NameText.{name_text, printed_after, printed_byte, dot}

-- the bytes that are left of a label, and the labels after it
printed_left : (label rest : List ℕ)
    → printed_after (length label)
    (label ++ rest) ≡ flat_map printed_byte label ++ printed_after 0 rest
printed_left [] rest = refl
printed_left (byte ∷ label) rest = rw (printed_left label rest, append_assoc)

-- the first label of a name, and what is printed after it
pub first_label : (name label rest : List ℕ) → AreLabels 0 name → IsLabel label
    → name ≡ wire_label label ++ rest
    → AreLabels 0 rest × (flat_map printed_byte label ++ printed_after 0 rest ≡ name_text name)
first_label name [] rest all some split = absurd (omega (arith, some.some))
first_label name (byte ∷ label) rest all some split = (
  (label_front (byte ∷ label) rest some).0 (subst (AreLabels 0) split all),
  sym (printed_left (byte ∷ label) rest) ∙ ap name_text (sym split),
)

-- a further label, and what is printed after it
pub next_label : (labels label rest : List ℕ) → AreLabels 0 labels → IsLabel label
    → labels ≡ wire_label label ++ rest
    → AreLabels 0 rest
    × ((text : List ℕ) → (text ++
    (dot ∷ flat_map printed_byte label)) ++ printed_after 0 rest ≡ text ++ printed_after 0 labels)
next_label labels [] rest all some split = absurd (omega (arith, some.some))
next_label labels (byte ∷ label) rest all some split = (
  (label_front (byte ∷ label) rest some).0 (subst (AreLabels 0) split all),
  λ text. append_assoc text _ _
      ∙ ap (λ more. text ++ more) (ap (λ more. dot ∷ more) (sym (printed_left
      (byte ∷ label) rest)) ∙ ap (printed_after 0) (sym split)),
)
