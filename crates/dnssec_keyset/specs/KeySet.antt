-- What a contract sees of a key set: its name, its keys by reference, and its rolls in progress
-- (RFC 6781, section 3.1: the keys of a zone; section 4.1: their rolls).
use Rattle.std.specs.Prelude.{ℕ, List}
use Rattle.std.specs.FinMap.{empty}
use Rattle.dnssec_zone.specs.Lists.{Lists, no_lists}
use Rattle.dnssec_zone.specs.Keys.{Keys}
use Rattle.dnssec_zone.specs.Rolls.{Rolls, no_rolls}

-- ---- the whole set

-- the parts of a key set
pub record KeySetParts : Type 0 where
  pub name : List ℕ  -- the zone's name on the wire
  pub keys : Keys
  pub rolls : Rolls
  pub lists : Lists  -- what the starts of rolls in `Propagation1` listed

-- a set without keys or rolls
abbrev pub new_set : List ℕ → KeySetParts
new_set name = record { name = name; keys = empty; rolls = no_rolls; lists = no_lists }
