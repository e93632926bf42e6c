-- A set that caches may hold, by the numbers of its keys, and whether two or three of them hold in
-- a chain.
use Rattle.std.specs.Prelude.{◌&&◌, ◌||◌, ℕ, Bool, false, true, List}
use Rattle.dnssec_judge.specs.declared.window.pairs.Link.TheVariants.{Named, Signed}
use Rattle.dnssec_judge.specs.Bits.{has_none, meet, meet_three, words_of}
use Rattle.dnssec_judge.specs.declared.sets.held.OpenSet.TheInside.{Inside}
use Rattle.dnssec_judge.specs.declared.window.pairs.Link.{Link}

-- bits for the keys of a set, and for its signers
abbrev pub Numbered : Type 0
Numbered = List ℕ × List ℕ

abbrev pub set_of : Inside → Numbered
set_of h = (words_of h.keys, words_of h.signers)

-- ---- tests

-- there is no DS, or a key named by it is in the DNSKEY set and signs it
abbrev pub keys_hold : Numbered → Numbered → Bool
keys_hold p q = has_none p.0 || meet_three p.0 q.0 q.1

-- a key of the DNSKEY set signs the zone
abbrev pub zone_holds : Numbered → Numbered → Bool
zone_holds q z = meet q.0 z.0

-- the two hold in a chain
abbrev pub holds : Link → Bool → Numbered → Numbered → Bool
holds Named true p q = keys_hold p q
holds Named false q p = keys_hold p q
holds Signed true q z = zone_holds q z
holds Signed false z q = zone_holds q z

-- or they share a key that they hold by, so that no DS fits none
abbrev pub meets : Link → Bool → Numbered → Numbered → Bool
meets Named true p q = meet_three p.0 q.0 q.1
meets Named false q p = meet_three p.0 q.0 q.1
meets Signed true q z = zone_holds q z
meets Signed false z q = zone_holds q z

-- there is no DS, or both hold
abbrev pub sets_have_chain : Numbered → Numbered → Numbered → Bool
sets_have_chain p q z = has_none p.0 || (meet_three p.0 q.0 q.1 && meet q.0 z.0)
