-- What the reader keeps from piece to piece, and what it then answers: for `from_str`.
use Rattle.std.proofs.Common.{ℕ, ◌≡◌, ◌≢◌, ◌<◌, refl, sym, subst, ⊎_elim, inl, inr, List, [], ◌∷◌}
use Rattle.std.proofs.Common.{◌++◌, length, arith}
use Rattle.dnssec_base.specs.WireName.{IsWireName, wire_label}
use Rattle.dnssec_base.specs.NameText.{Place, at_start, dot, root_text, IsFault, BeginsWith}
use Rattle.dnssec_base.specs.NameText.{BeginsWithSymbol, StandsFirst, Spells, has_labels, wire_end}
use Rattle.dnssec_base.specs.Inner.Draft.{IsLimit, HasRoom, IsRead}
use Rattle.dnssec_base.specs.Inner.{Pieces.IsPiece, Pieces.IsBadPiece, DraftName.DraftName}
use Rattle.dnssec_base.specs.declared.name.error.NameError.TheVariants.{EmptyLabel, LongLabel}
use Rattle.dnssec_base.specs.declared.name.error.NameError.TheVariants.{LongName, BadEscape}
use Rattle.dnssec_base.specs.declared.name.error.NameError.TheVariants.{BadByte}
use Rattle.dnssec_base.specs.declared.name.piece.NamePiece.TheVariants.{Byte}
use Rattle.dnssec_base.specs.declared.name.error.NameError.{NameError}
use Rattle.dnssec_base.proofs.Symbols.{begins}
use Rattle.dnssec_base.proofs.Places.{Spot, spot, Step, by_symbol, by_dot, step_at}
use Rattle.dnssec_base.proofs.Faults.{FaultsAhead, faults_start, faults_step, symbol_no_fault}
use Rattle.dnssec_base.proofs.Faults.{dot_no_fault, stands_first, no_fault}
use Rattle.dnssec_base.proofs.Wholes.{IsWhole, whole_start, whole_symbol, whole_dot, whole_end}

-- The reader has come to this place of the text: what is before it is read into the draft, and no
-- fault stands there.
pub record Reads (text : List ℕ) (d : DraftName) (after : List ℕ) : Type 0 where
  pub at : Place text d.labels d.label after
  pub faults : FaultsAhead text (spot d.labels d.label after)
  pub whole : IsWhole d.labels d.label

-- at the start
pub reads_start : (text : List ℕ) (d : DraftName) → d.labels ≡ [] → d.label ≡ [] → Reads text d text
reads_start text d no_labels no_label = record {
  at = rw (no_labels, no_label) at_start;
  faults = rw (no_labels, no_label) (faults_start text);
  whole = rw (no_labels, no_label) whole_start;
}

-- after a dot
pub reads_dot : (text : List ℕ) (d e : DraftName) (after rest : List ℕ) → Reads text d rest
    → rest ≡ dot ∷ after
    → d.label ≢ [] → e.labels ≡ d.labels ++ wire_label d.label → e.label ≡ [] → Reads text e after
reads_dot text d e after rest r split some labels_is label_is =
    let p : Spot = spot d.labels d.label rest in
    let q : Spot = spot e.labels e.label after in
    let step : Step p q = by_dot split labels_is label_is in record {
      at = step_at text p q step r.at;
      faults = faults_step text p q step (dot_no_fault p after split some) r.faults;
      whole = rw (labels_is, label_is) (whole_dot d.labels d.label r.whole some);
    }

-- after a symbol
pub reads_byte : (text : List ℕ) (d e : DraftName) (byte : ℕ) (after rest : List ℕ)
    → Reads text d rest
    → IsPiece (Byte byte) rest after → byte < 256 → HasRoom d
    → e.labels ≡ d.labels → e.label ≡ d.label ++ byte ∷ [] → Reads text e after
reads_byte text d e byte after rest r piece small room labels_is label_is =
    let p : Spot = spot d.labels d.label rest in
    let q : Spot = spot e.labels e.label after in
    let step : Step p q = by_symbol piece.0 byte piece.1 piece.2 labels_is label_is in record {
      at = step_at text p q step r.at;
      faults = faults_step text p q step
          (symbol_no_fault p (begins piece.0 after byte piece.1 piece.2) room.in_label room.in_name)
          r.faults;
      whole = rw (labels_is, label_is)
          (whole_symbol d.labels d.label byte r.whole small room.in_label room.in_name);
    }

-- a fault that is found here stands first
found : (text : List ℕ) (d : DraftName) (rest : List ℕ) (error other : NameError)
    → text ≢ root_text → Reads text d rest → error ≡ other → IsFault other d.labels d.label rest
    → (other ≡ LongName → length d.label ≢ 63) → StandsFirst text error
found text d rest error other no_root r is fault order =
    subst (StandsFirst text) (sym is)
    (stands_first text (spot d.labels d.label rest) other no_root r.at r.faults fault order)

-- the text is not a piece here
pub bad_piece : (text : List ℕ) (d : DraftName) (rest : List ℕ) (error : NameError)
    → text ≢ root_text
    → Reads text d rest → IsBadPiece error rest → StandsFirst text error
bad_piece text d rest error other r bad = ⊎_elim
    (λ escape.
    found text d rest error BadEscape other r escape.0 (escape.1, escape.2) (λ long _. cc))
    (λ byte. found text d rest error BadByte other r byte.0 byte.1 (λ long _. cc))
    bad

-- a dot ends no label here
pub empty_label : (text : List ℕ) (d : DraftName) (rest after : List ℕ) → text ≢ root_text
    → Reads text d rest
    → rest ≡ dot ∷ after → d.label ≡ [] → StandsFirst text EmptyLabel
empty_label text d rest after other r split empty =
    found text d rest EmptyLabel EmptyLabel other r refl
    (empty, inr (subst (BeginsWith (λ c. c ≡ dot)) (sym split) refl)) (λ long _. cc)

-- a limit is reached here
pub over_limit : (text : List ℕ) (d : DraftName) (rest after : List ℕ) (byte : ℕ)
    (error : NameError)
    → text ≢ root_text → Reads text d rest → IsPiece (Byte byte) rest after → IsLimit error d
    → StandsFirst text error
over_limit text d rest after byte error other r piece limit =
    let front : BeginsWithSymbol rest = begins piece.0 after byte piece.1 piece.2 in ⊎_elim
    (λ label.
    found text d rest error LongLabel other r label.0 (front, label.1) (λ long _. cc))
    (λ name. found text d rest error LongName other r name.0 (front, name.2)
    (λ _ full. omega (arith, full, name.1)))
    limit

-- the end of the text
pub reads_end : (text : List ℕ) (d : DraftName) (rest : List ℕ) → text ≢ [] → rest ≡ []
    → Reads text d rest → IsRead text d
reads_end text d rest some ended r =
    let at_end : Reads text d [] = subst (Reads text d) ended r in
    record {
      end = at_end.at;
      wire = whole_end d.labels d.label r.whole;
      faultless = no_fault text d.labels d.label some at_end.at at_end.faults;
    }

-- the empty text has no label
pub empty_text : (text : List ℕ) → length text ≡ 0 → StandsFirst text EmptyLabel
empty_text [] e = stands_first [] (spot [] [] []) EmptyLabel (λ root. cc) at_start (faults_start [])
    (refl, inl refl) (λ long _. cc)
empty_text (c ∷ text) e = absurd (omega (arith, e))

-- what is read is what the text spells
pub read_spells : (text name : List ℕ) (d : DraftName) → text ≢ [] → IsRead text d
    → name ≡ d.labels ++ wire_end d.label
    → Spells text name
read_spells text name d some read e =
    has_labels d.labels d.label some read.end e (subst IsWireName (sym e) read.wire)

-- the reader's steps and answers
pub ruleset reading = (
  reads_start,
  reads_dot,
  reads_byte,
  bad_piece,
  empty_label,
  over_limit,
  reads_end,
)
