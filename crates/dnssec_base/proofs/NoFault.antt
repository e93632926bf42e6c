-- No fault stands at a place of a text that spells a name: for the law `SpellsNoFault`.
use Rattle.std.proofs.Common.{ℕ, suc, ◌≡◌, ◌≢◌, ◌≤◌, refl, sym, ap, subst, ◌∙◌, List, [], ◌∷◌, ◌++◌}
use Rattle.std.proofs.Common.{append_assoc, length, length-append, arith}
use Rattle.dnssec_base.specs.WireName.{AreLabels, IsWireName, wire_label}
use Rattle.dnssec_base.specs.NameText.{Place, at_start, after_symbol, after_dot, is_root, Spells}
use Rattle.dnssec_base.specs.NameText.{Stands, has_labels, wire_end, dot, root_name}
use Rattle.dnssec_base.specs.{NameLaws.SpellsNoFault, declared.name.error.NameError.NameError}
use Rattle.dnssec_base.proofs.Places.{Spot, spot, At, Step, by_symbol, by_dot, Ahead, here, on}
use Rattle.dnssec_base.proofs.Places.{later, step_at}
use Rattle.dnssec_base.proofs.Faults.{NoFault, symbol_no_fault, dot_no_fault, end_no_fault}
use Rattle.dnssec_base.proofs.{Symbols.begins, WireLabels.label_room, WireLabels.skip}

-- a name has, after the labels before a place, the label there with its length, and more
record GoesOn (name labels label : List ℕ) : Type 0 where
  count : ℕ
  rest : List ℕ
  name_is : name ≡ labels ++ (count ∷ (label ++ rest))
  counted : length label ≤ count

at_end : (before last : List ℕ) → GoesOn (before ++ wire_end last) before last
at_end before [] = record { count = 0; rest = []; name_is = refl; counted = omega arith }
at_end before (byte ∷ last) = record {
  count = length (byte ∷ last);
  rest = root_name;
  name_is = refl;
  counted = omega arith;
}

-- a name goes on at each place before its end
goes_on : (before last : List ℕ) (p : Spot) → Ahead (spot before last []) p
    → GoesOn (before ++ wire_end last) p.labels p.label
goes_on before last p (here x same) =
    subst (λ (v : Spot). GoesOn (before ++ wire_end last) v.labels v.label) same
    (at_end before last)
goes_on before last p (on x n (by_symbol s b is e labels label) ahead) =
    let next : GoesOn (before ++ wire_end last) n.labels n.label = goes_on before last n ahead in
    let longer : n.label ++ next.rest ≡ p.label ++ (b ∷ next.rest) =
    ap (λ v. v ++ next.rest) label ∙ append_assoc p.label (b ∷ []) next.rest in
    record {
      count = next.count;
      rest = b ∷ next.rest;
      name_is = next.name_is ∙ ap (λ v. v ++ (next.count ∷ (n.label ++ next.rest))) labels
          ∙ ap (λ v. p.labels ++ (next.count ∷ v)) longer;
      counted = omega (arith, next.counted, ap length label, length-append p.label (b ∷ []));
    }
goes_on before last p (on x n (by_dot e labels label) ahead) =
    let next : GoesOn (before ++ wire_end last) n.labels n.label = goes_on before last n ahead in
    let after : List ℕ = next.count ∷ (n.label ++ next.rest) in
    record {
      count = length p.label;
      rest = after;
      name_is = next.name_is ∙ ap (λ v. v ++ after) labels
          ∙ append_assoc p.labels (wire_label p.label) after;
      counted = omega arith;
    }

-- what follows whole labels of a name is labels
labels_on : (text labels label after : List ℕ) → Place text labels label after
    → (n : ℕ) (bytes : List ℕ) → AreLabels 0 (labels ++ (n ∷ bytes)) → AreLabels 0 (n ∷ bytes)
labels_on text labels label after at_start n bytes are = are
labels_on text labels label after (after_symbol ls l s t b is place) n bytes are =
    labels_on text ls l (s ++ t) place n bytes are
labels_on text labels label after (after_dot ls l t place) n bytes are =
    go l (labels_on text ls l (dot ∷ t) place (length l) (l ++ (n ∷ bytes))
    (subst (AreLabels 0) (append_assoc ls (wire_label l) (n ∷ bytes)) are))
  where
    go : (l : List ℕ) → AreLabels 0 (wire_label l ++ (n ∷ bytes)) → AreLabels 0 (n ∷ bytes)
    go [] a = absurd a
    go (x ∷ l) a = skip (x ∷ l) (n ∷ bytes) a.1

-- no fault stands at a place after which a name goes on
step_no_fault : (text name : List ℕ) (p n : Spot) → IsWireName name → At text p → Step p n
    → GoesOn name n.labels n.label → NoFault p
step_no_fault text name p n wire place (by_symbol s b is e labels label) more =
    let next : At text n = step_at text p n (by_symbol s b is e labels label) place in
    let are : AreLabels 0 (more.count ∷ (n.label ++ more.rest)) =
    labels_on text n.labels n.label n.after next more.count (n.label ++ more.rest)
    (subst (AreLabels 0) more.name_is wire.labels) in
    let one_more : length n.label ≡ suc (length p.label) =
    omega (arith, ap length label, length-append p.label (b ∷ [])) in
    let room = label_room more.count (n.label ++ more.rest) (omega (arith, one_more, more.counted))
    are in
    symbol_no_fault p (begins s n.after b is e) (omega (arith, one_more, more.counted, room.0))
    (omega (
      arith,
      one_more,
      more.counted,
      room.1,
      wire.fits,
      ap length more.name_is,
      ap length labels,
      length-append n.labels (more.count ∷ (n.label ++ more.rest)),
      length-append p.labels (wire_label p.label),
    ))
step_no_fault text name p n wire place (by_dot e labels label) more =
    let after : List ℕ = more.count ∷ (n.label ++ more.rest) in
    let name_is : name ≡ p.labels ++ (wire_label p.label ++ after) =
    more.name_is ∙ ap (λ v. v ++ after) labels ∙ append_assoc p.labels (wire_label p.label) after in
    let are : AreLabels 0 (wire_label p.label ++ after) =
    labels_on text p.labels p.label p.after place (length p.label) (p.label ++ after)
    (subst (AreLabels 0) name_is wire.labels) in
    dot_no_fault p n.after e (λ empty. subst (λ v. AreLabels 0 (wire_label v ++ after)) empty are)

no_fault_at : (text before last : List ℕ) (p : Spot) → text ≢ []
    → IsWireName (before ++ wire_end last) → At text p → Ahead (spot before last []) p → NoFault p
no_fault_at text before last p some wire place (here x same) =
    subst NoFault same (end_no_fault text before last some (subst (At text) (sym same) place))
no_fault_at text before last p some wire place (on x n step ahead) =
    step_no_fault text (before ++ wire_end last) p n wire place step (goes_on before last n ahead)

-- the law, case by case
none_stands : (text name : List ℕ) → Spells text name → (error : NameError) (n : ℕ)
    → Stands text error n → ⊥
none_stands text name (is_root root is) error n stands = stands.other root
none_stands text name (has_labels before last some end is wire) error n stands =
    let p : Spot = spot stands.labels stands.label stands.after in
    no_fault_at text before last p some (subst IsWireName is wire) stands.at
    (later text (spot before last []) p end stands.at (omega arith)) error stands.is

pub spells_no_fault : SpellsNoFault
spells_no_fault text name spells = record { none = none_stands text name spells }
