-- A key at its reference, as both are lent, and a listing as code has it.
use denote.Ref.{Bor}
use Rattle.std.specs.Prelude.{ℕ, Bool, List, [], ◌∷◌, if◌then◌else◌}
use Rattle.std.specs.List.{list_any}
use Rattle.std.specs.declared.string.String.{String}
use Rattle.dnssec_key.specs.Key.{KeyParts}
use Rattle.dnssec_key.specs.declared.roll.RollType.{RollType}
use Rattle.dnssec_run.specs.InOrder.{entry_of}
use Rattle.dnssec_record.specs.Courses.{Listing, as_listed}
use Rattle.dnssec_record.specs.declared.courses.Listing as code
use Rattle.dnssec_zone.specs.declared.rolls.Part.{Part}
use Rattle.dnssec_status.specs.Keys.{has_listed, key_json}

-- the text of an entry
abbrev pub entry_json : {Y : Type 0} → List Listing → Bor (String Y) × Bor KeyParts → List ℕ
entry_json listed e = key_json listed (entry_of e)

-- a listing as it is lent, and its reference
abbrev pub listing_of : Bor code.Listing → Listing
listing_of l = as_listed l.now

abbrev pub reference_of : Bor code.Listing → List ℕ
reference_of l = (listing_of l).reference

-- it is of the key at a reference for the roll and as this part
abbrev pub lists : RollType → Part → List ℕ → Bor code.Listing → Bool
lists roll part reference l = has_listed roll part reference (listing_of l)

-- the roll, if one of the listings is so
abbrev pub roll_if_listed : RollType → Part → List ℕ → List (Bor code.Listing) → List RollType
roll_if_listed roll part reference ls =
    if list_any (lists roll part reference) ls then roll ∷ [] else []
