-- Lifetimes of signatures: no cache holds a set whose signatures are over (RFC 6781, section
-- 4.4.2).
use Rattle.std.specs.Prelude.{◌≡◌, ℕ, ◌+◌, ◌*◌, ◌<◌, ◌≤◌}
use Rattle.dnssec_run.specs.Safe.{SetKind}
use Rattle.dnssec_network.specs.Network.{FindChain, MayBeHeld, Network, NoneLiesAhead}
use Rattle.dnssec_network.specs.Network.{OfPlainLists, ReportsAreTrue, second_of}

-- The signatures of a version are valid at a time. A resolver uses its sets only then. They still
-- are in the second of the expiration (RFC 4034, section 3.1.5).
abbrev pub IsValid : Network → SetKind → ℕ → ℕ → Type 0
IsValid network kind v time = (network.inception kind v ≤ second_of time)
    × (second_of time ≤ network.expiration kind v)

-- each set that a cache may hold at a time is valid
abbrev pub HeldAreValid : Network → ℕ → Type 0
HeldAreValid network time = (kind : SetKind) (v : ℕ) → MayBeHeld network kind v time →
    IsValid network kind v time

-- Up to a time servers renew signatures: each gives a version whose signatures are valid by then,
-- and stay so until caches that get it then have dropped it. What no cache has any more at the
-- start doesn't count.
abbrev pub IsRenewed : Network → ℕ → Type 0
IsRenewed network time = (kind : SetKind) (server t : ℕ) → server < network.servers kind →
    t ≤ time →
    network.start < t + (network.ttl kind (network.version kind server t) + 1) * 1_000_000_000 →
    (network.inception kind (network.version kind server t) ≤ second_of t)
    × (t + network.ttl kind (network.version kind server t) * 1_000_000_000
    ≤ network.expiration kind (network.version kind server t) * 1_000_000_000)

-- Then whatever sets caches hold since the start are valid, and have a chain of trust.
abbrev pub ResolversFindValidChain : Type 0
ResolversFindValidChain = OfPlainLists (λ name calls entries network time.
    ReportsAreTrue entries network time →
    NoneLiesAhead entries network time →
    IsRenewed network time →
    FindChain entries network time × HeldAreValid network time)

-- Nothing less will do: if a server gives a version whose signatures end before its TTL, there is a
-- time at which a cache may hold it and it isn't valid.
abbrev pub RenewalIsNeeded : Type 0
RenewalIsNeeded = (network : Network) (kind : SetKind) (server t : ℕ) →
    server < network.servers kind →
    network.expiration kind (network.version kind server t) * 1_000_000_000
    < t + network.ttl kind (network.version kind server t) * 1_000_000_000 →
    (time : ℕ) × MayBeHeld network kind (network.version kind server t) time
    × (IsValid network kind (network.version kind server t) time → ⊥)

-- ---- what an operator keeps

-- Signatures are made in a second at or after their inception, and are valid for `validity` seconds
-- from then. No server gives them for longer than `refresh` seconds; with the TTL that is within
-- the validity.
pub record IsRefreshed (network : Network) (time : ℕ) : Type 0 where
  pub signed : SetKind → ℕ → ℕ
  pub validity : SetKind → ℕ
  pub refresh : SetKind → ℕ
  pub lasts : (kind : SetKind) (v : ℕ) →
      network.expiration kind v ≡ signed kind v + validity kind
  pub begins : (kind : SetKind) (server t : ℕ) → server < network.servers kind → t ≤ time →
      network.inception kind (network.version kind server t) ≤ second_of t
  pub fresh : (kind : SetKind) (server t : ℕ) → server < network.servers kind → t ≤ time →
      t ≤ (signed kind (network.version kind server t) + refresh kind) * 1_000_000_000
  pub enough : (kind : SetKind) (server t : ℕ) → server < network.servers kind → t ≤ time →
      refresh kind + network.ttl kind (network.version kind server t) ≤ validity kind

abbrev pub RefreshSuffices : Type 0
RefreshSuffices = (network : Network) (time : ℕ) → IsRefreshed network time →
    IsRenewed network time

-- ---- what a watcher sees

-- At any time the watcher has asked each server within the last `every` seconds, and the signatures
-- were then valid for at least these and the highest TTL. Later versions are valid for no less, and
-- no server goes back.
pub record IsWatched (network : Network) (time : ℕ) : Type 0 where
  pub every : ℕ
  pub most : SetKind → ℕ
  pub within : (kind : SetKind) (v : ℕ) → network.ttl kind v ≤ most kind
  pub grows : (kind : SetKind) (v w : ℕ) → v ≤ w →
      network.expiration kind v ≤ network.expiration kind w
  pub servers : (kind : SetKind) (server early late : ℕ) → server < network.servers kind →
      early ≤ late → late ≤ time →
      network.version kind server early ≤ network.version kind server late
  pub begins : (kind : SetKind) (server t : ℕ) → server < network.servers kind → t ≤ time →
      network.inception kind (network.version kind server t) ≤ second_of t
  pub seen : (kind : SetKind) (server t : ℕ) → server < network.servers kind → t ≤ time →
      (s : ℕ) × (s ≤ t) × (t ≤ s + every * 1_000_000_000)
      × (s + (every + most kind) * 1_000_000_000
      ≤ network.expiration kind (network.version kind server s) * 1_000_000_000)

abbrev pub WatchSuffices : Type 0
WatchSuffices = (network : Network) (time : ℕ) → IsWatched network time → IsRenewed network time
