-- Which keys a roll changes, what its start has to leave and which keys serve for that, whether it
-- may change algorithms, and which waits change keys that stay (RFC 6781, section 4.1).
use Rattle.std.specs.Prelude.{Bool, true, false, List, [], ◌∷◌}
use Rattle.dnssec_key.specs.declared.roll.Half.{Half}
use Rattle.dnssec_key.specs.declared.roll.Half.TheVariants.{First}
use Rattle.dnssec_key.specs.declared.roll.Side.{Side}
use Rattle.dnssec_key.specs.declared.roll.Side.TheVariants.{KskSide, ZskSide, BothSides}
use Rattle.dnssec_key.specs.declared.roll.Want.{Want}
use Rattle.dnssec_key.specs.declared.roll.Want.TheVariants.{PresentKsk, KskAtParent, PresentZsk}
use Rattle.dnssec_key.specs.declared.roll.Want.TheVariants.{PresentKskRole, PresentZskRole}
use Rattle.dnssec_key.specs.declared.kind.KeyType.{KeyType}
use Rattle.dnssec_key.specs.State.{Flags, kept_present, kept_at_parent}
use Rattle.dnssec_key.specs.Key.{ksk, zsk, ksk_role, zsk_role}
use Rattle.dnssec_key.specs.declared.roll.RollType.{RollType}
use Rattle.dnssec_key.specs.declared.roll.RollType.TheVariants.{KskRoll, KskDoubleDsRoll, ZskRoll}
use Rattle.dnssec_key.specs.declared.roll.RollType.TheVariants.{ZskDoubleSignatureRoll, CskRoll}
use Rattle.dnssec_key.specs.declared.roll.RollType.TheVariants.{AlgorithmRoll}

-- which keys a roll changes
abbrev pub side_of : RollType → Side
side_of KskRoll = KskSide
side_of KskDoubleDsRoll = KskSide
side_of ZskRoll = ZskSide
side_of ZskDoubleSignatureRoll = ZskSide
side_of CskRoll = BothSides
side_of AlgorithmRoll = BothSides

-- what a start has to leave: a key that serves on each side of the roll
abbrev pub wants : RollType → List Want
wants KskRoll = PresentKsk ∷ []
wants KskDoubleDsRoll = KskAtParent ∷ []
wants ZskRoll = PresentZsk ∷ []
wants ZskDoubleSignatureRoll = PresentZsk ∷ []
wants CskRoll = PresentKskRole ∷ PresentZskRole ∷ []
wants AlgorithmRoll = PresentKskRole ∷ PresentZskRole ∷ []

-- the role that a want speaks of passes
abbrev pub wanted_role : Want → (Flags → Bool) → KeyType → Bool
wanted_role PresentKsk = ksk
wanted_role KskAtParent = ksk
wanted_role PresentZsk = zsk
wanted_role PresentKskRole = ksk_role
wanted_role PresentZskRole = zsk_role

-- a key that isn't listed as old serves if it is where it is wanted, and stays
abbrev pub serves_as_kept : Want → KeyType → Bool
serves_as_kept KskAtParent = ksk kept_at_parent
serves_as_kept want = wanted_role want kept_present

-- only an algorithm roll goes from one set of algorithms to another (RFC 6781, section 4.1.4)
abbrev pub may_change_algorithms : RollType → Bool
may_change_algorithms AlgorithmRoll = true
may_change_algorithms _ = false

-- This wait may change which keys that stay are in the DNSKEY set or have a DS. By the first wait
-- of a roll that changes KSKs a DS follows its key, or keys come in for others. By the second an
-- algorithm roll takes the ZSK role of a CSK out of the DNSKEY set by its KSK role.
abbrev pub wait_moves_kept : RollType → Half → Bool
wait_moves_kept KskRoll First = true
wait_moves_kept KskDoubleDsRoll First = true
wait_moves_kept CskRoll First = true
wait_moves_kept AlgorithmRoll half = true
wait_moves_kept _ _ = false
