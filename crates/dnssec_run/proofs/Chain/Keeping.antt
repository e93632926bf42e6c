-- More facts of the tables: keys in a set on the side of keys, and keys that stay, for a family of
-- keys that comes, stays or leaves.
use Rattle.dnssec_zone.proofs.Flags.{Keys, Zone, affects, flags_fit, Quiet, Early, Late, may_start}
use Rattle.dnssec_zone.proofs.Flags.{ended, started}
use Rattle.dnssec_zone.specs.Start.{may_change_algorithms}
use Rattle.std.proofs.Common.{◌≡◌, Bool, true, not, ◌&&◌, ◌||◌, arith}
use Rattle.std.proofs.lemmas.Bool.{and_parts}
use Rattle.dnssec_key.specs.declared.roll.RollType.{RollType, TheVariants.AlgorithmRoll}
use Rattle.dnssec_key.specs.declared.kind.KeyType.{KeyType}
use Rattle.dnssec_key.specs.declared.roll.Half.TheVariants.{First, Second}
use Rattle.dnssec_key.specs.RollTable.{column, half_of}
use Rattle.dnssec_run.specs.{ByAlgorithm.keeps_ksk, ByAlgorithm.keeps_zsk, Published.in_ds}
use Rattle.dnssec_run.proofs.Chain.Flags.{Shared, Own, is_in, in_use, live, remains}
use Rattle.dnssec_run.proofs.Chain.Facts.{Seen, stays}

-- in the DS set, or in the DNSKEY set and signing it
abbrev pub engaged : KeyType → Bool
engaged k = is_in Keys Shared k || is_in Keys Own k

-- ---- of one key

pub engaged-seen : Seen Keys engaged
engaged-seen k e = grind (arith, and_parts)

pub rest-ds : (k : KeyType) → flags_fit Keys Quiet k ≡ true → engaged k ≡ true → in_ds k ≡ true
rest-ds k fit e = grind (arith, and_parts)

pub rest-engaged : (k : KeyType) → flags_fit Keys Quiet k ≡ true → keeps_ksk k ≡ true
    → engaged k ≡ true
rest-engaged k fit e = grind (arith, and_parts)

pub rest-keeps : (k : KeyType) → flags_fit Keys Quiet k ≡ true → in_use Keys k ≡ true
    → keeps_ksk k ≡ true
rest-keeps k fit e = grind (arith, and_parts)

pub live-keeps : (k : KeyType) → live Keys k ≡ true → keeps_ksk k ≡ true
live-keeps k e = grind (arith, and_parts)

-- ---- before a wait

pub record BeforeFirst (r : RollType) (k : KeyType) : Type 0 where
  pub engages : engaged ((half_of r First).moves k) ≡ true → engaged k ≡ true
  pub lives : live Keys ((half_of r First).moves k) ≡ true → remains Keys r k ≡ true
  pub ds : affects Zone r ≡ true → in_ds ((half_of r First).moves k) ≡ true → remains Keys r k
      ≡ true
  pub keeps : keeps_ksk k ≡ true → remains Keys r k ≡ true
  pub kept : remains Keys r k ≡ true → keeps_ksk k ≡ true

pub before_first : (r : RollType) (k : KeyType) → affects Keys r ≡ true
    → flags_fit Keys (Early r) k ≡ true → BeforeFirst r k
unfolding column
before_first r k own fit = grind (arith, and_parts)

pub before_second : (r : RollType) (k : KeyType) → affects Keys r ≡ true
    → flags_fit Keys (Late r) k ≡ true → engaged ((half_of r Second).moves k) ≡ true
    → (engaged k ≡ true)
    × (live Keys k ≡ true)
unfolding column
before_second r k own fit e = grind (arith, and_parts)

-- ---- on the side of the zone

-- the first wait of an algorithm roll leaves the keys that sign the zone
pub zone-stays : (k : KeyType) → in_use Zone k ≡ true
    → in_use Zone ((half_of AlgorithmRoll First).moves k) ≡ true
unfolding column
zone-stays k e = grind (arith, and_parts)

pub zone-remains : (r : RollType) (k : KeyType) → affects Zone r ≡ true
    → flags_fit Zone (Early r) k ≡ true → keeps_zsk k ≡ true → remains Zone r k ≡ true
zone-remains r k own fit e = grind (arith, and_parts)

-- ---- a start

pub record AtStart (r : RollType) (o i : Bool) (k : KeyType) : Type 0 where
  pub engages : affects Keys r ≡ true → flags_fit Keys Quiet k ≡ true
      → engaged (started r o i k) ≡ true → (engaged k || keeps_ksk (started r o i k)) ≡ true
  pub keeps : affects Keys r ≡ true → flags_fit Keys Quiet k ≡ true → in_use Keys k ≡ true
      → not o ≡ true → keeps_ksk (started r o i k) ≡ true
  pub new : not (may_change_algorithms r) ≡ true → i ≡ true
      → ((affects Keys r && remains Keys r (started r o i k))
      || (affects Zone r && remains Zone r (started r o i k))) ≡ true

pub at_start : (r : RollType) (o i : Bool) (k : KeyType) → may_start r o i k ≡ true
    → AtStart r o i k
unfolding column
at_start r o i k may = grind (arith, and_parts)

-- ---- an early end

pub ended-engaged : (r : RollType) (o i : Bool) (k : KeyType) → engaged (ended r o i k) ≡ true
    → engaged k ≡ true
unfolding column
ended-engaged r o i k e = grind (arith, and_parts)

-- ---- what a waiting algorithm roll reads

pub reads-engaged : (k : KeyType) → flags_fit Keys (Early AlgorithmRoll) k ≡ true
    → stays AlgorithmRoll First k ≡ true → engaged k ≡ true
unfolding column
reads-engaged k fit e = grind (arith, and_parts)
