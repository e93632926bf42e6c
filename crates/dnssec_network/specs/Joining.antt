-- A second signer joins the zone (docs/RUNBOOKS.md, "Two signers"): what resolvers find before it
-- may be asked, and afterwards.
use Rattle.std.specs.Prelude.{ℕ, ◌<◌, ◌≤◌}
use Rattle.dnssec_run.specs.Safe.{Ds, SetKind}
use Rattle.dnssec_network.specs.Either.{BothKeepRules, HaveDsOfOne, HaveDsOfOneByEach, OfEither}
use Rattle.dnssec_network.specs.Either.{One, Other, Which}
use Rattle.dnssec_network.specs.{Guide.HaveSameAlgorithms, Guide.ds_of_both, Network.MayBeHeld}
use Rattle.dnssec_network.specs.TwoSigners.{KeepsAlgorithms, KeepsRules, PublicChain}
use Rattle.dnssec_network.specs.TwoSigners.{PublicChainByEach, Signer}

-- a cache may hold this version of the one or the other: of the one that joins only what it got
-- since its start, from which on it may be asked
abbrev pub MayBeHeldOf : Signer → Signer → ℕ → Which → SetKind → ℕ → Type 0
MayBeHeldOf here joins time One kind v = MayBeHeld here.network kind v time
MayBeHeldOf here joins time Other kind v =
    (held : MayBeHeld joins.network kind v time) × (joins.network.start ≤ held.since)

-- Up to a time the two keep the guide's rules for one that joins.
pub record JoinsInOrder (here joins : Signer) (time : ℕ) : Type 0 where
  -- before it may be asked, the DS set may have its keys too
  pub before : time < joins.network.start → (v : ℕ) → MayBeHeld here.network Ds v time →
      HaveDsOfOne here joins v
  -- from then on both keep the rules for two
  pub both : joins.network.start ≤ time → BothKeepRules here joins time

-- Then resolvers find a chain of trust at each time.
abbrev pub JoiningKeepsChain : Type 0
JoiningKeepsChain = (here joins : Signer) (time : ℕ) →
    KeepsRules here time → JoinsInOrder here joins time →
    OfEither here joins time (ds_of_both here joins) (MayBeHeldOf here joins time) PublicChain

-- ---- by each algorithm

-- Up to a time the one keeps sets whole, and each DS set has a key of it for each algorithm; and
-- once the other may be asked both have the same algorithms.
pub record JoinsWithAlgorithms (here joins : Signer) (algorithm : ℕ → ℕ) (time : ℕ)
    : Type 0 where
  pub mine : KeepsAlgorithms here algorithm
  pub before : time < joins.network.start → (v : ℕ) → MayBeHeld here.network Ds v time →
      HaveDsOfOneByEach here joins algorithm v
  pub both : joins.network.start ≤ time → HaveSameAlgorithms here joins algorithm time

abbrev pub JoiningKeepsEachChain : Type 0
JoiningKeepsEachChain = (here joins : Signer) (algorithm : ℕ → ℕ) (time : ℕ) →
    KeepsRules here time → JoinsInOrder here joins time →
    JoinsWithAlgorithms here joins algorithm time →
    OfEither here joins time (ds_of_both here joins) (MayBeHeldOf here joins time)
    (PublicChainByEach algorithm)
