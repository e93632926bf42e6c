-- One of two signers leaves the zone (docs/RUNBOOKS.md, "Two signers"): what resolvers find
-- meanwhile, and afterwards.
use Rattle.std.specs.Prelude.{◌≡◌, ℕ, ◌+◌, ◌-◌, ◌*◌, ◌<◌, ◌≤◌, ◌⊎◌, List, [], length, map, nat_lt}
use Rattle.std.specs.{Prelude.if◌then◌else◌, List.Contains}
use Rattle.dnssec_run.specs.Published.{Id}
use Rattle.dnssec_run.specs.Safe.{Dnskey, Ds, SetKind, ZoneSigners, position_at}
use Rattle.dnssec_network.specs.Either.{BothKeepRules, HaveDsOfOne, HaveDsOfOneByEach, OfEither}
use Rattle.dnssec_network.specs.Either.{One, Other, Which}
use Rattle.dnssec_network.specs.Guide.{HaveSameAlgorithms, ds_of_both}
use Rattle.dnssec_network.specs.Network.{IsGiven, MayBeHeld}
use Rattle.dnssec_network.specs.Pairs.{HasZoneKeys, IsPromptRun, promptly}
use Rattle.dnssec_network.specs.TwoSigners.{KeepsAlgorithms, KeepsRules, PublicChain}
use Rattle.dnssec_network.specs.TwoSigners.{PublicChainByEach, Signer, shown}

-- ---- how it leaves

pub record Leave : Type 0 where
  -- from this time on no server gives NS sets that name its servers, its own servers neither
  pub out : ℕ
  -- the highest TTL of NS sets that name them, in seconds
  pub ttl : ℕ
  -- from this time on the DS set may have the keys of the other's `ds=` alone
  pub over : ℕ
  -- the first version of the DS set that has these alone
  pub alone : ℕ

-- a resolver may ask its servers at a time: it holds NS sets that name them
abbrev pub MayBeAsked : Leave → ℕ → Type 0
MayBeAsked leave time = (since : ℕ) × (since < leave.out) × (since ≤ time)
    × (time < since + (leave.ttl + 1) * 1_000_000_000)

-- a cache may hold this version of the one or the other: of the one that leaves only what it got
-- while it might ask for it
abbrev pub MayBeHeldOf : Signer → Signer → Leave → ℕ → Which → SetKind → ℕ → Type 0
MayBeHeldOf stays leaves leave time One kind v = MayBeHeld stays.network kind v time
MayBeHeldOf stays leaves leave time Other kind v =
    (held : MayBeHeld leaves.network kind v time) × MayBeAsked leave held.since

-- a DS set of the parent: the keys of both `ds=`, and then those of the one that stays
abbrev pub ds_while_leaving : Signer → Signer → Leave → ℕ → List ℕ
ds_while_leaving stays leaves leave v = if nat_lt v leave.alone then ds_of_both stays leaves v
    else map stays.public (shown stays Ds v).ds

-- ---- the rules

-- Up to a time the two keep the guide's rules for one that leaves.
pub record LeavesInOrder (stays leaves : Signer) (leave : Leave) (time : ℕ) : Type 0 where
  -- until it is over both keep the rules for two: it goes on to serve, and takes in the other's new
  -- keys; and the other keeps its keys
  pub both : time < leave.over → BothKeepRules stays leaves time
  -- it is over once the TTL of NS sets has passed, and then that of each DNSKEY set, and of the
  -- zone, that it gave as long as it might be asked; each with a second more
  pub keys : (v t : ℕ) → t ≤ time → MayBeAsked leave t → IsGiven leaves.network Dnskey v t →
      leave.out + (leave.ttl + 1 + leaves.network.ttl Dnskey v + 1) * 1_000_000_000 ≤ leave.over
  pub zone : (v t : ℕ) → t ≤ time → MayBeAsked leave t → IsGiven leaves.network ZoneSigners v t →
      leave.out + (leave.ttl + 1 + leaves.network.ttl ZoneSigners v + 1) * 1_000_000_000
      ≤ leave.over
  -- only then the parent gives a DS set of the other alone
  pub ds : (v t : ℕ) → leave.alone ≤ v → t ≤ time → IsGiven stays.network Ds v t → leave.over ≤ t
  -- and each one of both that caches still hold has a key of the other, if it has any
  pub other : leave.over ≤ time → (v : ℕ) → v < leave.alone →
      MayBeHeld stays.network Ds v time → HaveDsOfOne stays leaves v

-- so once it is over nothing of it is left in caches
abbrev pub NothingIsLeft : Type 0
NothingIsLeft = (stays leaves : Signer) (leave : Leave) (v time : ℕ) →
    LeavesInOrder stays leaves leave time → leave.over ≤ time →
    (MayBeHeldOf stays leaves leave time Other Dnskey v → ⊥)
    × (MayBeHeldOf stays leaves leave time Other ZoneSigners v → ⊥)

-- ---- what resolvers find

-- They find a chain of trust at each time, while the one leaves and afterwards. Once it is over
-- nothing more is asked of the one that leaves, and of the other only the rules for one.
abbrev pub LeavingKeepsChain : Type 0
LeavingKeepsChain = (stays leaves : Signer) (leave : Leave) (time : ℕ) →
    KeepsRules stays time → LeavesInOrder stays leaves leave time →
    OfEither stays leaves time (ds_while_leaving stays leaves leave)
    (MayBeHeldOf stays leaves leave time) PublicChain

-- ---- by each algorithm

-- Up to a time the one that stays keeps sets whole, and until it is over both have the same
-- algorithms. Each DS set of both that caches still hold then has a key of the one that stays for
-- each algorithm.
pub record LeavesWithAlgorithms (stays leaves : Signer) (leave : Leave) (algorithm : ℕ → ℕ)
    (time : ℕ) : Type 0 where
  pub mine : KeepsAlgorithms stays algorithm
  pub both : time < leave.over → HaveSameAlgorithms stays leaves algorithm time
  pub other : leave.over ≤ time → (v : ℕ) → v < leave.alone →
      MayBeHeld stays.network Ds v time → HaveDsOfOneByEach stays leaves algorithm v

abbrev pub LeavingKeepsEachChain : Type 0
LeavingKeepsEachChain =
    (stays leaves : Signer) (leave : Leave) (algorithm : ℕ → ℕ) (time : ℕ) →
    KeepsRules stays time → LeavesInOrder stays leaves leave time →
    LeavesWithAlgorithms stays leaves leave algorithm time →
    OfEither stays leaves time (ds_while_leaving stays leaves leave)
    (MayBeHeldOf stays leaves leave time) (PublicChainByEach algorithm)

-- ---- the rules can be kept

-- One of two that go in step with prompt servers, each of whose sets has the zone keys of the
-- other's, may leave at any time.
abbrev pub LeavingCanBeMet : Type 0
LeavingCanBeMet = (first start ttl time : ℕ) (stays leaves : Signer) (leave : Leave) →
    ttl ≤ 4_294_967_295 →
    IsPromptRun first start ttl time stays →
    IsPromptRun first start ttl time leaves →
    length stays.entries ≡ length leaves.entries →
    ((p : ℕ) → HasZoneKeys stays p leaves p × HasZoneKeys leaves p stays p) →
    ((p : ℕ) →
    (((position_at stays.entries p).ds ≡ []) × ((position_at leaves.entries p).ds ≡ []))
    ⊎ (((k : Id) × Contains (position_at stays.entries p).ds k)
    × ((k : Id) × Contains (position_at leaves.entries p).ds k))) →
    leave.out + (leave.ttl + 1 + ttl + 1) * 1_000_000_000 ≤ leave.over →
    0 < leave.alone →
    leave.over ≤ start + (leave.alone - 1) * 1_000_000_000 →
    LeavesInOrder (promptly first start ttl time stays) (promptly first start ttl time leaves)
    leave time
