-- The laws of names and their texts. A function of this crate promises each of them.
use Rattle.std.specs.Prelude.{◌≡◌, List, ℕ}
use Rattle.dnssec_base.specs.WireName.{IsWireName}
use Rattle.dnssec_base.specs.NameText.{Spells, HasNoFault, StandsFirst, name_text}
use Rattle.dnssec_base.specs.declared.name.error.NameError.{NameError}

-- a text spells at most one name
abbrev pub SpellsOneName : Type 0
SpellsOneName = (text name other : List ℕ) → Spells text name → Spells text other → name ≡ other

-- no fault stands in a text that spells a name
abbrev pub SpellsNoFault : Type 0
SpellsNoFault = (text name : List ℕ) → Spells text name → HasNoFault text

-- a text in which no fault stands spells a name
abbrev pub SpellsUnlessFault : Type 0
SpellsUnlessFault = (text : List ℕ) → HasNoFault text → (name : List ℕ) × Spells text name

-- one fault stands first
abbrev pub OneFaultStandsFirst : Type 0
OneFaultStandsFirst = (text : List ℕ) (fault other : NameError)
    → StandsFirst text fault → StandsFirst text other → fault ≡ other

-- the printed text of a name spells it
abbrev pub PrintsItsSpelling : Type 0
PrintsItsSpelling = (name : List ℕ) → IsWireName name → Spells (name_text name) name
