-- What holds of each roll: whose DS sets it leaves alone, and which rolls go together.
use Rattle.std.proofs.Common.{◌≡◌, Bool, true, false, arith}
use Rattle.dnssec_key.specs.declared.roll.RollType.{RollType, TheVariants.AlgorithmRoll}
use Rattle.dnssec_key.specs.declared.kind.KeyType.{KeyType}
use Rattle.dnssec_key.specs.declared.roll.Half.{Half}
use Rattle.dnssec_key.specs.declared.roll.Half.TheVariants.{First, Second}
use Rattle.dnssec_key.specs.RollTable.{column, half_of}
use Rattle.dnssec_run.specs.{Published.in_ds, Safe.Ds, Safe.retires, Plain.needs_algorithm_roll}
use Rattle.dnssec_run.proofs.Chain.{Flags.switches, Facts.timed}
use Rattle.dnssec_zone.proofs.Flags.{SideOf, Keys, Zone, affects, started, Early, Late}
use Rattle.dnssec_zone.specs.Start.{side_of, together}
use Rattle.dnssec_keyset.proofs.Laws.{apart-sym}

pub still_ds : (r : RollType) → needs_algorithm_roll r ≡ false → (o i : Bool) (k : KeyType)
    → in_ds (started r o i k) ≡ in_ds k
unfolding column
still_ds r free o i k = grind arith

pub waited_ds : (r : RollType) (half : Half) → affects Keys r ≡ false → (k : KeyType)
    → in_ds ((half_of r half).moves k) ≡ in_ds k
unfolding column
waited_ds r half out k = grind arith

pub alone_first : (r : RollType) → together r AlgorithmRoll ≡ false
alone_first r = grind arith

pub together-sym : (r q : RollType) → together r q ≡ together q r
together-sym r q = apart-sym (side_of r) (side_of q)

pub some_side : (r : RollType) → affects Keys r ≡ false → affects Zone r ≡ true
some_side r e = grind arith

-- a roll whose second set changes at its first wait has a second report that counts
pub switch_timed : (sd : SideOf) (r : RollType) → affects sd r ≡ true → switches sd r ≡ true
    → timed r Second ≡ true
switch_timed sd r own on = grind arith

pub only_first : (r : RollType) → affects Keys r ≡ true → needs_algorithm_roll r ≡ false
    → r ≡ AlgorithmRoll
only_first r own free = grind arith

pub timed_first : (r : RollType) → timed r First ≡ true
timed_first r = grind arith

-- the second report of a roll of both sides retires DS sets
pub both_retires : (r : RollType) → affects Keys r ≡ true → affects Zone r ≡ true
    → retires r true Ds ≡ true
both_retires r keys zone = grind arith

-- a roll of only the zone needs no algorithm roll before it
pub zone_free : (r : RollType) → affects Keys r ≡ false → needs_algorithm_roll r ≡ false
zone_free r out = grind arith

pub early-late : (q r : RollType) → Early q ≡ Late r → ⊥
early-late q r e = cc

pub early-same : (q r : RollType) → Early q ≡ Early r → q ≡ r
early-same q r e = cc
