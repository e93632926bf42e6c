-- The facts of the tables on early ends: what a start put on keys is taken from them again.
use Rattle.dnssec_zone.proofs.Flags.{SideOf, Zone, affects, flags_fit, Quiet, ended}
use Rattle.dnssec_zone.proofs.Flags.{may_start, started, tied, Stage}
use Rattle.std.proofs.Common.{◌≡◌, Bool, true, false, ◌&&◌, arith}
use Rattle.std.proofs.lemmas.Bool.{and_parts}
use Rattle.dnssec_key.specs.declared.{roll.RollType.RollType, kind.KeyType.KeyType}
use Rattle.dnssec_key.specs.{declared.kind.KeyType.TheVariants.Csk, State.is_kept, Key.all_states}
use Rattle.dnssec_key.specs.RollTable.{column}
use Rattle.dnssec_run.proofs.Chain.Flags.{SideSet, Shared, is_in, in_use, used_in}
use Rattle.dnssec_run.proofs.Chain.Facts.{Seen, sees, test-seen}

-- ---- after a start

-- a key at rest that a start lists, and after an early end of the roll
abbrev pub there_and_back : RollType → Bool → Bool → KeyType → KeyType
there_and_back r o i k = ended r (o && all_states is_kept k) i (started r o i k)

-- the two roles of a CSK are in the DNSKEY set together, and then on their way out together
abbrev pub is_tied : KeyType → Bool
is_tied (Csk s t) = tied s t
is_tied _ = true

pub fits-tied : (st : Stage) (k : KeyType) → flags_fit Zone st k ≡ true → is_tied k ≡ true
fits-tied st k e = grind (arith, and_parts)

pub back-fits : (sd : SideOf) (r : RollType) (o i : Bool) (k : KeyType) → affects sd r ≡ true
    → may_start r o i k ≡ true → flags_fit sd Quiet k ≡ true → is_tied k ≡ true
    → (flags_fit sd Quiet (there_and_back r o i k) ≡ true)
    × (in_use sd k ≡ true → in_use sd (there_and_back r o i k) ≡ true)
unfolding column
back-fits sd r o i k own may fit two = grind (arith, and_parts)

-- it is in no set that it wasn't in; and an early end puts no key at all into a set
pub back-less : (sd : SideOf) (set : SideSet) (r : RollType) (o i : Bool) (k : KeyType)
    → may_start r o i k ≡ true → is_in sd set (there_and_back r o i k) ≡ true
    → is_in sd set k ≡ true
unfolding column
back-less sd set r o i k may e = grind (arith, and_parts)

pub ended-less : (sd : SideOf) (set : SideSet) (r : RollType) (o i : Bool) (k : KeyType)
    → is_in sd set (ended r o i k) ≡ true → is_in sd set k ≡ true
unfolding column
ended-less sd set r o i k e = grind (arith, and_parts)

-- ---- of any key

-- a key that the side doesn't see, or that is idle, fits the side at rest
pub unseen-ended : (sd : SideOf) (r : RollType) (o i : Bool) (k : KeyType)
    → sees sd k ≡ false → flags_fit sd Quiet (ended r o i k) ≡ true
unfolding column
unseen-ended sd r o i k e = grind (arith, and_parts)

pub ended-seen : (sd : SideOf) (set : SideSet) (r : RollType) (o i : Bool)
    → Seen sd (λ k. is_in sd set (ended r o i k))
ended-seen sd set r o i k e = test-seen sd set k (ended-less sd set r o i k e)

pub ended-used : (sd : SideOf) (r : RollType) (o i : Bool)
    → Seen sd (λ k. in_use sd (ended r o i k))
ended-used sd r o i k e = ended-seen sd Shared r o i k (used_in sd Shared (ended r o i k) e)
