-- More facts of the tables: the waits, the keys that a call leaves alone, the keys that a wait
-- reads.
use Rattle.dnssec_zone.proofs.Flags.{SideOf, affects, flags_fit, has_role, is_idle, may_start}
use Rattle.dnssec_zone.proofs.Flags.{started, Keys, Zone, Quiet, Early, Late, wait1-fits}
use Rattle.dnssec_zone.proofs.Flags.{wait2-fits}
use Rattle.dnssec_zone.specs.Start.{together, serves_as_new, serves_as_kept, lists_kind, side_of}
use Rattle.std.proofs.Common.{◌≡◌, Bool, true, false, not, ◌&&◌, ◌||◌, arith}
use Rattle.std.{specs.Prelude.if◌then◌else◌, proofs.lemmas.Bool.and_parts}
use Rattle.dnssec_keyset.proofs.Exchange.Kinds.{apart-kinds}
use Rattle.dnssec_key.specs.declared.roll.RollType.{RollType, TheVariants.ZskDoubleSignatureRoll}
use Rattle.dnssec_key.specs.declared.{roll.RollType.TheVariants.CskRoll, kind.KeyType.KeyType}
use Rattle.dnssec_key.specs.declared.roll.Half.{Half}
use Rattle.dnssec_key.specs.declared.roll.Half.TheVariants.{First, Second}
use Rattle.dnssec_key.specs.RollTable.{column, half_of}
use Rattle.dnssec_run.proofs.Chain.Tables.{written, read, checked, want_on}
use Rattle.dnssec_run.proofs.Chain.Flags.{SideSet, Shared, switches, is_in, first_set, in_use, live}
use Rattle.dnssec_run.proofs.Chain.Flags.{second_set, remains, used_in}

-- the first wait
pub record Waited1 (sd : SideOf) (r : RollType) (k : KeyType) : Type 0 where
  pub fit : flags_fit sd (Late r) ((half_of r First).moves k) ≡ true
  pub first : is_in sd (first_set r) ((half_of r First).moves k) ≡ true
      → is_in sd (first_set r) k ≡ true
  pub keep : switches sd r ≡ true → is_in sd (first_set r) k ≡ true
      → is_in sd (first_set r) ((half_of r First).moves k) ≡ true
  pub second : not (switches sd r) ≡ true
      → is_in sd (second_set r) ((half_of r First).moves k) ≡ true
      → is_in sd (second_set r) k ≡ true
  pub inner : switches sd r ≡ true → is_in sd (second_set r) k ≡ true
      → is_in sd (first_set r) k ≡ true
  pub some : remains sd r k ≡ true → live sd ((half_of r First).moves k) ≡ true

pub wait1_facts : (sd : SideOf) (r : RollType) (k : KeyType) → affects sd r ≡ true
    → flags_fit sd (Early r) k ≡ true → Waited1 sd r k
unfolding column
wait1_facts sd r k own fit = grind (arith, and_parts, wait1-fits)

-- the second wait
pub record Waited2 (sd : SideOf) (r : RollType) (k : KeyType) : Type 0 where
  pub fit : flags_fit sd Quiet ((half_of r Second).moves k) ≡ true
  pub less : (set : SideSet) → is_in sd set ((half_of r Second).moves k) ≡ true → is_in sd set k
      ≡ true
  pub used : live sd k ≡ true → in_use sd ((half_of r Second).moves k) ≡ true

pub wait2_facts : (sd : SideOf) (r : RollType) (k : KeyType) → affects sd r ≡ true
    → flags_fit sd (Late r) k ≡ true → Waited2 sd r k
unfolding column
wait2_facts sd r k own fit = grind (arith, and_parts, wait2-fits)

-- ---- keys that a roll may not list

-- a roll that isn't of the side lists no key that has its role
pub apart : (sd : SideOf) (r : RollType) (k : KeyType) → affects sd r ≡ false → has_role sd k ≡ true
    → lists_kind (side_of r) k ≡ false
apart sd r k out role = grind arith

-- rolls that go together list no key in common
pub other : (r q : RollType) (k : KeyType) → together r q ≡ true → lists_kind (side_of q) k ≡ true
    → lists_kind (side_of r) k ≡ false
other r q = apart-kinds (side_of r) (side_of q)

-- ---- what matters to a side

-- a side sees keys that have its role and aren't idle
abbrev pub sees : SideOf → KeyType → Bool
sees sd k = has_role sd k && not (is_idle k)

-- only keys that it sees pass
abbrev pub Seen : SideOf → (KeyType → Bool) → Type 0
Seen sd p = (k : KeyType) → p k ≡ true → sees sd k ≡ true

pub test-seen : (sd : SideOf) (set : SideSet) → Seen sd (is_in sd set)
test-seen sd set k e = grind (arith, and_parts)

pub use-seen : (sd : SideOf) → Seen sd (in_use sd)
use-seen sd k e = test-seen sd Shared k (used_in sd Shared k e)

pub live-seen : (sd : SideOf) → Seen sd (live sd)
live-seen sd k e = use-seen sd k (and_parts _ _ e).0

pub remains-seen : (sd : SideOf) (r : RollType) → Seen sd (remains sd r)
remains-seen sd r k e = grind (arith, and_parts)

-- ---- the witness of a phase: a key that the coming wait reads, with the stamp of its report

abbrev pub timed : RollType → Half → Bool
timed ZskDoubleSignatureRoll Second = false
timed _ _ = true

-- the half whose report writes the stamps that the wait reads
abbrev pub stamped_in : RollType → Half → Half
stamped_in r half = if timed r half then half else First

-- the side whose suitable key the waits of a roll read
abbrev pub timer : RollType → SideOf
timer CskRoll = Zone
timer r = if affects Keys r then Keys else Zone

pub timer-affects : (r : RollType) → affects (timer r) r ≡ true
timer-affects r = grind arith

-- a key of that side that the wait checks, and to which the report gives the stamp that it reads
abbrev pub stays : RollType → Half → KeyType → Bool
stays r half k = has_role (timer r) k && (checked r (stamped_in r half) k
    && written (read r (stamped_in r half)) r (stamped_in r half) k)

pub record Stays (r : RollType) (half : Half) (k : KeyType) : Type 0 where
  pub touched : lists_kind (side_of r) k ≡ true
  pub busy : is_idle k ≡ false
  pub check : timed r half ≡ true → checked r half k ≡ true
  pub write : timed r half ≡ true → written (read r half) r half k ≡ true

pub stays_facts : (r : RollType) (half : Half) (k : KeyType) → stays r half k ≡ true
    → Stays r half k
unfolding column
stays_facts r half k h = grind (arith, and_parts)

pub stays_start : (r : RollType) (o i : Bool) (k : KeyType) → may_start r o i k ≡ true
    → flags_fit (timer r) Quiet k ≡ true
    → ((i && serves_as_new (want_on (timer r) r) k) || (not o && serves_as_kept (want_on (timer r)
    r) k)) ≡ true → stays r First (started r o i k) ≡ true
unfolding column
stays_start r o i k may fit suits = grind (arith, and_parts)

pub stays_wait : (r : RollType) (k : KeyType) → flags_fit (timer r) (Early r) k ≡ true
    → stays r First k ≡ true → stays r Second ((half_of r First).moves k) ≡ true
unfolding column
stays_wait r k fit here = grind (arith, and_parts)
