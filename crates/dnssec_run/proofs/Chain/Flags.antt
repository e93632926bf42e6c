-- The finite facts of the tables on both sides of the chain, of all kinds and flags.
use Rattle.dnssec_zone.proofs.Flags.{SideOf, affects, flags_fit, has_role, may_start, started, Keys}
use Rattle.dnssec_zone.proofs.Flags.{Zone, Quiet, Early, start-fits}
use Rattle.dnssec_zone.specs.Start.{serves_as_new, serves_as_kept}
use Rattle.std.proofs.Common.{◌≡◌, Bool, true, false, not, ◌&&◌, ◌||◌, arith}
use Rattle.std.proofs.lemmas.Bool.{and_parts}
use Rattle.dnssec_key.specs.declared.roll.RollType.TheVariants.{KskDoubleDsRoll, AlgorithmRoll}
use Rattle.dnssec_key.specs.declared.roll.RollType.TheVariants.{ZskDoubleSignatureRoll}
use Rattle.dnssec_key.specs.declared.{roll.RollType.RollType, kind.KeyType.KeyType}
use Rattle.dnssec_key.specs.{RollTable.column, Key.ksk_role, Key.zsk_role}
use Rattle.dnssec_run.specs.Safe.{SetKind, Ds, Dnskey, ZoneSigners}
use Rattle.dnssec_run.specs.Published.{in_ds, in_dnskey, signs_dnskey as signs_keys, signs_zone}
use Rattle.dnssec_run.proofs.Chain.Tables.{want_on}

-- at its first wait the roll changes its second set; else it only leaves the old keys out
abbrev pub switches : SideOf → RollType → Bool
switches Zone ZskDoubleSignatureRoll = false
switches Zone AlgorithmRoll = false
switches _ _ = true

-- the two sets of a side: the DNSKEY set, which both sides share, and its own: the DS set, or the
-- keys that sign the zone
pub data SideSet : Type 0 where
  Shared : SideSet
  Own : SideSet

abbrev pub by_set : (P : SideSet → Type 0) → P Shared → P Own → (set : SideSet) → P set
by_set P shared own Shared = shared
by_set P shared own Own = own

-- which set of the zone it is
abbrev pub kind_on : SideOf → SideSet → SetKind
kind_on sd Shared = Dnskey
kind_on Keys Own = Ds
kind_on Zone Own = ZoneSigners

-- a key is in it; on the side of keys it signs the DNSKEY set too
abbrev pub is_in : SideOf → SideSet → KeyType → Bool
is_in Keys Shared k = in_dnskey k && signs_keys k
is_in Zone Shared k = has_role Zone k && in_dnskey k
is_in Keys Own k = in_ds k
is_in Zone Own k = signs_zone k

-- The first set of a roll grows at its start, the second changes at its first wait. Only in a
-- Double-DS roll the DS set is the first.
abbrev pub first_set : RollType → SideSet
first_set KskDoubleDsRoll = Own
first_set _ = Shared

abbrev pub second_set : RollType → SideSet
second_set KskDoubleDsRoll = Shared
second_set _ = Own

-- so what holds of both holds of each
pub both_sets : (r : RollType) (P : SideSet → Type 0) → P (first_set r) → P (second_set r)
    → (set : SideSet) → P set
both_sets KskDoubleDsRoll P a b = by_set P b a
both_sets _ P a b = by_set P a b

abbrev pub in_use : SideOf → KeyType → Bool
in_use sd k = is_in sd Shared k && is_in sd Own k

pub used_in : (sd : SideOf) (set : SideSet) (k : KeyType) → in_use sd k ≡ true
    → is_in sd set k ≡ true
used_in sd set k e = grind (arith, and_parts)

abbrev pub is_old : SideOf → KeyType → Bool
is_old Keys = ksk_role (λ s. s.old)
is_old Zone = zsk_role (λ s. s.old)

-- a key of the first set that isn't old: it is in use from the first wait on
abbrev pub remains : SideOf → RollType → KeyType → Bool
remains sd r k = has_role sd k && (is_in sd (first_set r) k && not (is_old sd k))

-- in use and not on its way out
abbrev pub live : SideOf → KeyType → Bool
live sd k = in_use sd k && not (is_old sd k)

-- a start
pub record Started (sd : SideOf) (r : RollType) (o i : Bool) (k : KeyType) : Type 0 where
  pub fit : flags_fit sd (Early r) (started r o i k) ≡ true
  pub inner : is_in sd (second_set r) k ≡ true → is_in sd (first_set r) k ≡ true
  pub used : in_use sd k ≡ true → in_use sd (started r o i k) ≡ true
  pub second : switches sd r ≡ true → is_in sd (second_set r) (started r o i k) ≡ true
      → (is_in sd (second_set r) k ≡ true) × (is_in sd (first_set r) (started r o i k) ≡ true)
  pub some : ((i && serves_as_new (want_on sd r) k) || (not o && serves_as_kept (want_on sd r) k))
      ≡ true → remains sd r (started r o i k) ≡ true

pub start_facts : (sd : SideOf) (r : RollType) (o i : Bool) (k : KeyType) → affects sd r ≡ true
    → may_start r o i k ≡ true → flags_fit sd Quiet k ≡ true → Started sd r o i k
unfolding column
start_facts sd r o i k own may fit = grind (arith, and_parts, start-fits)
