-- A chain by every algorithm, for validators that ask for each algorithm of the DS set (RFC 4035,
-- section 2.2). A plain list has one at each position if its starts keep the sets whole.
use Rattle.std.specs.Prelude.{◌≡◌, ◌≢◌, ℕ, zero, suc, ◌≤◌, ◌||◌, Bool, true, List, length}
use Rattle.std.specs.Prelude.{slice_get, Some}
use Rattle.std.specs.List.{Contains}
use Rattle.std.specs.Option.{option_map_or}
use Rattle.std.specs.FinMap.{get}
use Rattle.dnssec_key.specs.declared.kind.KeyType.{KeyType}
use Rattle.dnssec_key.specs.declared.roll.RollType.{RollType}
use Rattle.dnssec_key.specs.declared.roll.RollType.TheVariants.{AlgorithmRoll}
use Rattle.dnssec_key.specs.Key.{KeyParts, ksk_role, zsk_role}
use Rattle.dnssec_key.specs.State.{kept_present, kept_at_parent}
use Rattle.dnssec_keyset.specs.Step as keyset
use Rattle.dnssec_run.specs.declared.call.Call.{Call}
use Rattle.dnssec_run.specs.declared.record.Entry.{Entry}
use Rattle.dnssec_run.specs.Published.{Id, World}
use Rattle.dnssec_run.specs.Record.{IsRun, call_of, world_at}
use Rattle.dnssec_run.specs.Safe.{Position, position_at, MayBeCached, Ds, Dnskey, ZoneSigners}
use Rattle.dnssec_run.specs.Safe.{HasChain, IsSafe}
use Rattle.dnssec_run.specs.Plain.{DoesAt, IsPlain, start_of}

-- ---- the chain

-- the algorithm of the key that the call adds
abbrev pub added_algorithm : keyset.Call → ℕ
added_algorithm (keyset.AddKey reference key) = key.algorithm
added_algorithm _ = 0

-- that of the call after which this position stands
abbrev pub algorithm_at : List Call → ℕ → ℕ
algorithm_at calls zero = 0
algorithm_at calls (suc n) =
    option_map_or (λ (call : Call). added_algorithm (call_of call)) (slice_get calls n) 0

-- the algorithm of a key of a record is that of the call which added it
abbrev pub algorithm_of : List Call → Id → ℕ
algorithm_of calls k = algorithm_at calls k.1

-- a key of the algorithm is in the DS set and in the DNSKEY set, and signs the DNSKEY set
abbrev pub TrustsKeysBy : (Id → ℕ) → ℕ → Position → Position → Type 0
TrustsKeysBy algorithm a p q = (k : Id) × (algorithm k ≡ a) × Contains p.ds k × Contains q.dnskey k
    × Contains q.signers k

-- a key of the algorithm is in the DNSKEY set, and signs the zone
abbrev pub TrustsZoneBy : (Id → ℕ) → ℕ → Position → Position → Type 0
TrustsZoneBy algorithm a q z = (k : Id) × (algorithm k ≡ a) × Contains q.dnskey k
    × Contains z.zone k

-- for each key of the DS set there is a chain by keys of its algorithm alone
abbrev pub HasChainByEach : (Id → ℕ) → Position → Position → Position → Type 0
HasChainByEach algorithm p q z = (d : Id) → Contains p.ds d →
    TrustsKeysBy algorithm (algorithm d) p q × TrustsZoneBy algorithm (algorithm d) q z

-- whatever sets caches may hold at n, of whatever positions, have such a chain
abbrev pub IsSafeByEach : List Call → List Entry → ℕ → Type 0
IsSafeByEach calls entries n = (p q z : ℕ) →
    MayBeCached entries Ds p n →
    MayBeCached entries Dnskey q n →
    MayBeCached entries ZoneSigners z n →
    HasChainByEach (algorithm_of calls) (position_at entries p) (position_at entries q)
    (position_at entries z)

-- ---- sets kept whole

-- a KSK or a CSK that isn't old, and is in the DNSKEY set or has a DS
abbrev pub keeps_ksk : KeyType → Bool
keeps_ksk = ksk_role (λ s. kept_present s || kept_at_parent s)

-- a ZSK or a CSK that isn't old, and is in the DNSKEY set
abbrev pub keeps_zsk : KeyType → Bool
keeps_zsk = zsk_role kept_present

-- some key of the algorithm is there and passes
abbrev pub HasKeyOf : (KeyType → Bool) → ℕ → World → Type 0
HasKeyOf passes algorithm w = (q : List ℕ) × (k : KeyParts) × (get w.set.keys q ≡ Some k) ×
    (passes k.keytype ≡ true) × (k.algorithm ≡ algorithm)

-- After each accepted start, the algorithms of the KSKs are among those of the ZSKs; keys that are
-- old don't count, and a CSK counts as both. Only an algorithm roll brings an algorithm to the KSKs
-- that they didn't have before.
pub record KeepsWhole (name : List ℕ) (calls : List Call) (entries : List Entry) : Type 0 where
  pub both : (n algorithm : ℕ) (roll : RollType) → DoesAt start_of calls entries n roll →
      HasKeyOf keeps_ksk algorithm (world_at name calls entries (suc n)) →
      HasKeyOf keeps_zsk algorithm (world_at name calls entries (suc n))
  pub none_new : (n algorithm : ℕ) (roll : RollType) → DoesAt start_of calls entries n roll →
      roll ≢ AlgorithmRoll →
      HasKeyOf keeps_ksk algorithm (world_at name calls entries (suc n)) →
      HasKeyOf keeps_ksk algorithm (world_at name calls entries n)

-- if the list is plain and keeps the sets whole, every position of its record is safe by each
-- algorithm
abbrev pub StaysSafeByEach : List ℕ → List Call → List Entry → Type 0
StaysSafeByEach name calls entries =
    IsPlain name calls entries → KeepsWhole name calls entries →
    (n : ℕ) → n ≤ length entries → IsSafeByEach calls entries n

-- of such a record each position is safe, and safe by each algorithm
abbrev pub WholeRunsStaySafe : Type 0
WholeRunsStaySafe = (name : List ℕ) (calls : List Call) (entries : List Entry) →
    IsRun name calls entries → IsPlain name calls entries → KeepsWhole name calls entries →
    (n : ℕ) → n ≤ length entries → IsSafe entries n × IsSafeByEach calls entries n

-- and of any record: what has a chain by each algorithm has a chain
abbrev pub EachChainIsOne : Type 0
EachChainIsOne = (algorithm : Id → ℕ) (p q z : Position) → HasChainByEach algorithm p q z →
    HasChain p q z
