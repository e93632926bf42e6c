-- Which fault a place may have, and that none stands before the place that the reader has come to:
-- for the first fault in `from_str` and the laws.
use Rattle.std.proofs.Common.{ℕ, ◌≡◌, ◌≢◌, ◌⊎◌, ◌+◌, ◌-◌, ◌<◌, ◌≤◌, refl, sym, ap, subst, ◌∙◌, inl}
use Rattle.std.proofs.Common.{inr, ⊎_elim, List, [], ◌∷◌, ◌++◌, length, length-append, arith}
use Rattle.std.proofs.Common.{Option, Some, None, if◌then◌else◌, ◌==◌}
use Rattle.std.proofs.lemmas.Bool.{cases_eq, ne_eqb, Decides.nat_tests}
use Rattle.dnssec_base.specs.NameText.{dot, backslash, IsFault, BeginsWithSymbol, Place, root_text}
use Rattle.dnssec_base.specs.NameText.{at_start, after_symbol, after_dot, Stands, StandsFirst}
use Rattle.dnssec_base.specs.NameText.{HasNoFault}
use Rattle.dnssec_base.specs.declared.name.error.NameError.TheVariants.{EmptyLabel, LongLabel}
use Rattle.dnssec_base.specs.declared.name.error.NameError.TheVariants.{LongName, BadEscape}
use Rattle.dnssec_base.specs.declared.name.error.NameError.TheVariants.{BadByte, OutOfMemory}
use Rattle.dnssec_base.specs.{WireName.wire_label, declared.name.error.NameError.NameError}
use Rattle.dnssec_base.proofs.Symbols.{symbol_front, symbol_found, no_symbol, symbol_or_not, within}
use Rattle.dnssec_base.proofs.Places.{Spot, spot, At, Step, Ahead, left, past, ahead_start}
use Rattle.dnssec_base.proofs.Places.{ahead_same, ahead-length}

-- ---- which fault a place may have

-- the fault of a text that begins with no symbol
abbrev front_fault : List ℕ → NameError
front_fault [] = EmptyLabel
front_fault (c ∷ text) =
    if c == dot then EmptyLabel else (if c == backslash then BadEscape else BadByte)

-- the fault of a text by the symbol at its front, after n bytes of a label
abbrev fault_of : Option (ℕ × List ℕ) → ℕ → List ℕ → NameError
fault_of None n text = front_fault text
fault_of (Some symbol) n text = if n == 63 then LongLabel else LongName

-- the fault that may stand after this label, before this text
abbrev pub may_be : List ℕ → List ℕ → NameError
may_be label text = fault_of (symbol_front text) (length label) text

-- before a symbol, and before none
at_symbol : (label text : List ℕ) → BeginsWithSymbol text
    → (if length label == 63 then LongLabel else LongName) ≡ may_be label text
at_symbol label text front =
    sym (ap (λ o. fault_of o (length label) text)
    (ap symbol_front front.split ∙ symbol_found front.symbol front.after front.byte front.is))

at_none : (label text : List ℕ) → symbol_front text ≡ None → front_fault text ≡ may_be label text
at_none label text none = sym (ap (λ o. fault_of o (length label) text) none)

-- no other fault stands there, unless a label and a name are both too long
pub fault_is : (error : NameError) (labels label after : List ℕ) → IsFault error labels label after
    → (error ≡ may_be label after)
    ⊎ ((error ≡ LongName) × BeginsWithSymbol after × (length label ≡ 63))
fault_is EmptyLabel labels label [] fault = inl refl
fault_is EmptyLabel labels label (c ∷ text) fault = ⊎_elim
    (λ nothing. absurd (omega (arith, ap length nothing, length-append labels (c ∷ text))))
    (λ dotted. inl (ap (λ v. may_be label (v ∷ text)) (sym dotted)))
    fault.1
fault_is LongLabel labels label after fault =
    inl (ap (λ n. if n == 63 then LongLabel else LongName) (sym fault.1)
    ∙ at_symbol label after fault.0)
fault_is LongName labels label after fault = ⊎_elim
    (λ full. inr (refl, fault.0, full))
    (λ room. inl (sym (ap (λ b. if b then LongLabel else LongName) (ne_eqb (length label) 63 room))
    ∙ at_symbol label after fault.0))
    (cases_eq (length label) 63)
fault_is BadEscape labels label [] fault = absurd fault.0
fault_is BadEscape labels label (c ∷ text) fault = ⊎_elim
    (λ front. absurd (fault.1 front))
    (λ none. inl (ap (λ v. front_fault (v ∷ text)) (sym fault.0) ∙ at_none label (c ∷ text) none))
    (symbol_or_not (c ∷ text))
fault_is BadByte labels label [] fault = absurd fault
fault_is BadByte labels label (c ∷ text) fault = ⊎_elim
    (λ visible. absurd (fault visible))
    (λ out. let none : symbol_front (c ∷ text) ≡ None = grind (arith, nat_tests) in
    let byte : BadByte ≡ front_fault (c ∷ text) = grind (arith, nat_tests) in
    inl (byte ∙ at_none label (c ∷ text) none))
    (within 0x21 0x7E c)
fault_is OutOfMemory labels label after fault = absurd fault

-- this fault stands at this place
abbrev pub Faulty : NameError → Spot → Type 0
Faulty error p = IsFault error p.labels p.label p.after

-- no fault stands at this place
abbrev pub NoFault : Spot → Type 0
NoFault p = (error : NameError) → Faulty error p → ⊥

-- a symbol that has room is no fault
pub symbol_no_fault : (p : Spot) → BeginsWithSymbol p.after → length p.label < 63
    → length (p.labels ++ wire_label p.label) + 2 ≤ 255 → NoFault p
symbol_no_fault p front in_label in_name error fault = ⊎_elim
    (λ is. let room : length p.label ≢ 63 = (λ full. omega (arith, full, in_label)) in
    let long : (if length p.label == 63 then LongLabel else LongName) ≡ LongName =
    ap (λ b. if b then LongLabel else LongName) (ne_eqb (length p.label) 63 room) in
    let name : Faulty LongName p =
    subst (λ e. Faulty e p) (is ∙ sym (at_symbol p.label p.after front) ∙ long) fault in
    omega (arith, name.1, in_name))
    (λ both. omega (arith, both.2, in_label))
    (fault_is error p.labels p.label p.after fault)

-- a dot after a label with bytes is no fault
pub dot_no_fault : (p : Spot) (r : List ℕ) → p.after ≡ dot ∷ r → p.label ≢ [] → NoFault p
dot_no_fault p r e some error fault = ⊎_elim
    (λ is. let empty : Faulty EmptyLabel p =
    subst (λ v. Faulty v p) (is ∙ ap (may_be p.label) e) fault in some empty.0)
    (λ both. no_symbol p.after (ap symbol_front e) both.1)
    (fault_is error p.labels p.label p.after fault)

-- a place with nothing before it and nothing after it is that of the empty text
empty_text_only : (text labels label after : List ℕ) → Place text labels label after
    → length labels + length label ≡ 0 → after ≡ [] → text ≡ []
empty_text_only text labels label after at_start none end = end
empty_text_only text labels label after (after_symbol ls l s t b is place) none end =
    absurd (omega (arith, none, length-append l (b ∷ [])))
empty_text_only text labels label after (after_dot ls l t place) none end =
    absurd (omega (arith, none, length-append ls (wire_label l)))

-- no fault stands at the end of a text that is not empty
pub end_no_fault : (text labels label : List ℕ) → text ≢ [] → Place text labels label []
    → NoFault (spot labels label [])
end_no_fault text labels label some place error fault = ⊎_elim
    (λ is. let empty : IsFault EmptyLabel labels label [] =
    subst (λ v. IsFault v labels label []) is fault in ⊎_elim
    (λ nothing. some (empty_text_only text labels label [] place
    (omega (arith, ap length empty.0, ap length nothing, length-append labels [])) refl))
    (λ dotted. dotted)
    empty.1)
    (λ both. no_symbol [] refl both.1)
    (fault_is error labels label [] fault)

-- ---- where faults stand

-- each fault of the text stands at this place or ahead of it
pub record FaultsAhead (text : List ℕ) (p : Spot) : Type 0 where
  pub ahead : (error : NameError) (q : Spot) → At text q → Faulty error q → Ahead q p

-- at the start
pub faults_start : (text : List ℕ) → FaultsAhead text (spot [] [] text)
faults_start text = record { ahead = λ error q place fault. ahead_start text q place }

-- at the next place
pub faults_step : (text : List ℕ) (p next : Spot) → Step p next → NoFault p → FaultsAhead text p
    → FaultsAhead text next
faults_step text p next step none faults = record {
  ahead = λ error q place fault. ⊎_elim
      (λ same. absurd (none error (subst (Faulty error) same fault)))
      (λ further. further)
      (past q p next step (faults.ahead error q place fault));
}

-- a fault at a place stands in the text
pub stands_here : (text : List ℕ) (p : Spot) (error : NameError) (n : ℕ) → text ≢ root_text
    → At text p → n + left p ≡ length text → Faulty error p → Stands text error n
stands_here text p error n other place reached fault = record {
  other = other;
  labels = p.labels;
  label = p.label;
  after = p.after;
  at = place;
  is = fault;
  place_is = reached;
}

pub stands_at : (text : List ℕ) (p : Spot) (error : NameError) → text ≢ root_text → At text p
    → Faulty error p → Stands text error (length text - left p)
stands_at text p error other place fault =
    let within : left p ≤ length text =
    ahead-length p (spot [] [] text) (ahead_start text p place) in
    stands_here text p error (length text - left p) other place (omega (arith, within)) fault

-- the place of a fault that stands in the text
abbrev pub place_of : (text : List ℕ) (error : NameError) (n : ℕ) → Stands text error n → Spot
place_of text error n stands = spot stands.labels stands.label stands.after

-- a fault at the place that the reader has come to stands first
pub stands_first : (text : List ℕ) (p : Spot) (error : NameError) → text ≢ root_text → At text p
    → FaultsAhead text p → Faulty error p → (error ≡ LongName → length p.label ≢ 63)
    → StandsFirst text error
stands_first text p error other place faults fault order = record {
  place = length text - left p;
  stands = stands_at text p error other place fault;
  first = λ error' n stands.
      let q : Spot = place_of text error' n stands in
      let further : left q ≤ left p =
      ahead-length q p (faults.ahead error' q stands.at stands.is) in
      omega (arith, further, stands.place_is);
  label_first = λ long stands.
      let q : Spot = place_of text LongLabel (length text - left p) stands in
      let within : left p ≤ length text =
      ahead-length p (spot [] [] text) (ahead_start text p place) in
      let same : q ≡ p =
      ahead_same q p (faults.ahead LongLabel q stands.at stands.is)
      (omega (arith, within, stands.place_is)) in
      order long (sym (ap (λ (v : Spot). length v.label) same) ∙ stands.is.1);
}

-- at the end of a text that is not empty no fault is left
pub no_fault : (text labels label : List ℕ) → text ≢ [] → Place text labels label []
    → FaultsAhead text (spot labels label []) → HasNoFault text
no_fault text labels label some place faults = record {
  none = λ error n stands.
      let end : Spot = spot labels label [] in
      let q : Spot = place_of text error n stands in
      let same : q ≡ end =
      ahead_same q end (faults.ahead error q stands.at stands.is) (omega arith) in
      end_no_fault text labels label some place error (subst (Faulty error) same stands.is);
}
