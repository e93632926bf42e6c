-- What is read is whole labels and a part of one: for the wire name that `from_str` answers.
use Rattle.std.proofs.Common.{ℕ, zero, suc, ◌+◌, ◌<◌, ◌≤◌, ◌≢◌, refl, ap, subst, List, [], ◌∷◌}
use Rattle.std.proofs.Common.{◌++◌, append_assoc, length, length-append, All, arith}
use Rattle.std.proofs.lemmas.List.Elements.{All-append, All-cons, All-nil, All-push}
use Rattle.dnssec_base.specs.WireName.{AreLabels, IsLabel, IsWireName, wire_label}
use Rattle.dnssec_base.specs.NameText.{wire_end, root_name}
use Rattle.dnssec_base.proofs.WireLabels.{label_front}

-- a number that is a byte
abbrev pub IsOctet : ℕ → Type 0
IsOctet byte = byte < 256

-- whole labels, and after them bytes of one more that fits with the root
pub record IsWhole (labels label : List ℕ) : Type 0 where
  pub labels_whole : AreLabels 0 (labels ++ root_name)
  pub labels_octets : All IsOctet labels
  pub label_octets : All IsOctet label
  pub label_fits : length label ≤ 63
  pub name_fits : length (labels ++ wire_end label) ≤ 255

-- labels in place of the root
labels_append : (n : ℕ) (xs ys : List ℕ) → AreLabels n (xs ++ root_name) → AreLabels 0 ys
    → AreLabels n (xs ++ ys)
labels_append zero [] ys h more = more
labels_append (suc n) [] ys h more = absurd h
labels_append zero (zero ∷ []) ys h more = absurd h
labels_append zero (zero ∷ x ∷ xs) ys h more = absurd h
labels_append zero (suc m ∷ xs) ys h more = (h.0, labels_append (suc m) xs ys h.1 more)
labels_append (suc n) (x ∷ xs) ys h more = labels_append n xs ys h more

-- the last label and the root
length-ended : (label : List ℕ) → length (wire_end label) ≤ length label + 2
length-ended [] = omega arith
length-ended (byte ∷ label) = omega (arith, length-append label root_name)

-- at the start
pub whole_start : IsWhole [] []
whole_start = record {
  labels_whole = tt;
  labels_octets = All-nil IsOctet;
  label_octets = All-nil IsOctet;
  label_fits = omega arith;
  name_fits = omega arith;
}

-- after one more byte
pub whole_symbol : (labels label : List ℕ) (byte : ℕ) → IsWhole labels label → byte < 256
    → length label < 63
    → length (labels ++ wire_label label) + 2 ≤ 255 → IsWhole labels (label ++ byte ∷ [])
whole_symbol labels label byte whole small room fits = record {
  labels_whole = whole.labels_whole;
  labels_octets = whole.labels_octets;
  label_octets = All-push IsOctet label byte whole.label_octets small;
  label_fits = omega (arith, length-append label (byte ∷ []));
  name_fits = omega (
    arith,
    length-append labels (wire_end (label ++ byte ∷ [])),
    length-ended (label ++ byte ∷ []),
    length-append label (byte ∷ []),
    length-append labels (wire_label label),
  );
}

-- after a dot
pub whole_dot : (labels label : List ℕ) → IsWhole labels label → label ≢ []
    → IsWhole (labels ++ wire_label label) []
whole_dot labels [] whole some = absurd (some refl)
whole_dot labels (byte ∷ label) whole some =
    let last : List ℕ = byte ∷ label in
    let is : IsLabel last = record { some = omega arith; fits = whole.label_fits } in
    record {
      labels_whole = rw append_assoc
          (labels_append 0 labels (wire_label last ++ root_name) whole.labels_whole
          ((label_front last root_name is).1 tt));
      labels_octets = All-append IsOctet labels (wire_label last) whole.labels_octets
          (All-cons IsOctet (length last) last (omega (arith, is.fits)) whole.label_octets);
      label_octets = All-nil IsOctet;
      label_fits = omega arith;
      name_fits = omega (
        arith,
        whole.name_fits,
        ap length (append_assoc labels (wire_label last) root_name),
      );
    }

-- at the end, after a final dot
whole_dotted : (labels : List ℕ) → IsWhole labels [] → IsWireName (labels ++ root_name)
whole_dotted labels whole = record {
  labels = whole.labels_whole;
  octets = All-push IsOctet labels 0 whole.labels_octets (omega arith);
  fits = whole.name_fits;
}

-- at the end
pub whole_end : (labels label : List ℕ) → IsWhole labels label
    → IsWireName (labels ++ wire_end label)
whole_end labels [] whole = whole_dotted labels whole
whole_end labels (byte ∷ label) whole =
    subst IsWireName (append_assoc labels (wire_label (byte ∷ label)) root_name)
    (whole_dotted (labels ++ wire_label (byte ∷ label))
    (whole_dot labels (byte ∷ label) whole (λ e. cc)))
