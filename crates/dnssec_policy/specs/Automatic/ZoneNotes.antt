-- The notes of a zone.
use Rattle.std.specs.Prelude.{◌≡◌, ◌++◌, ◌∷◌, []}
use Rattle.dnssec_network.specs.declared.fact.Fact.{Fact}
use Rattle.dnssec_policy.specs.Text.Lint.{AreHighest}
use Rattle.dnssec_policy.specs.declared.automatic.zone_notes.ZoneNotes.{ZoneNotes}

-- the highest TTLs are those of the notes
abbrev pub HasHighest : ZoneNotes → Type 0
HasHighest noted = AreHighest noted.notes.before noted.notes.facts noted.highest

-- one more fact is noted
pub record TakesFact (old : ZoneNotes) (fact : Fact) (new : ZoneNotes) : Type 0 where
  pub notes : new.notes ≡ record (old.notes) { facts = old.notes.facts ++ fact ∷ [] }
  pub highest : HasHighest old → HasHighest new
