-- A second signer joins: the one alone, and then both.
use Rattle.std.proofs.Common.{List, arith, inl, inr, ℕ, ◌<◌, ◌≤◌}
use Rattle.std.proofs.lemmas.Bool.{cases_lt}
use Rattle.dnssec_run.specs.Safe.{Dnskey, Ds, SetKind, ZoneSigners}
use Rattle.dnssec_network.proofs.Either.{OfOne, WhileBoth, alone-chain, alone-each, both-chain}
use Rattle.dnssec_network.proofs.Either.{both-each, only-one}
use Rattle.dnssec_network.specs.Either.{OfEither, One, Other, Which, signer_of}
use Rattle.dnssec_network.specs.Guide.{ds_of_both}
use Rattle.dnssec_network.specs.Joining.{JoiningKeepsChain, JoiningKeepsEachChain, MayBeHeldOf}
use Rattle.dnssec_network.specs.Network.{MayBeHeld}
use Rattle.dnssec_network.specs.TwoSigners.{PublicChain, PublicChainByEach, Signer}

held-of : (here joins : Signer) (time : ℕ) (w : Which) (kind : SetKind) (v : ℕ)
    → MayBeHeldOf here joins time w kind v
    → MayBeHeld (signer_of here joins w).network kind v time
held-of here joins time One kind v held = held
held-of here joins time Other kind v held = held.0

-- nobody holds anything of it before it may be asked
too-early : (here joins : Signer) (time : ℕ) (kind : SetKind) (v : ℕ)
    → time < joins.network.start → MayBeHeldOf here joins time Other kind v → ⊥
too-early here joins time kind v lt held = omega (arith, lt, held.0.got, held.1)

-- the one alone, or both
joined : (here joins : Signer) (time : ℕ) (P : List ℕ → List ℕ → List ℕ → List ℕ → Type 0)
    → (time < joins.network.start → (p : ℕ) → MayBeHeld here.network Ds p time
    → OfOne here time (ds_of_both here joins p) P)
    → (joins.network.start ≤ time → WhileBoth here joins time P)
    → OfEither here joins time (ds_of_both here joins) (MayBeHeldOf here joins time) P
joined here joins time P before both keeper signer p q z in_ds keys zone =
    elim (cases_lt time joins.network.start) [
      | inl lt ↦
          only-one here joins time (ds_of_both here joins p) (MayBeHeldOf here joins time) P
          (λ kind v held. held) (λ v. too-early here joins time Dnskey v lt)
          (λ v. too-early here joins time ZoneSigners v lt) (before lt p in_ds) keeper signer q z
          keys zone
      | inr ge ↦
          both ge keeper signer p q z in_ds (held-of here joins time keeper Dnskey q keys)
          (held-of here joins time signer ZoneSigners z zone)
    ]

pub joining_keeps_chain : JoiningKeepsChain
joining_keeps_chain here joins time rules order = joined here joins time PublicChain
    (λ lt p in_ds. alone-chain here joins time rules p in_ds (order.before lt p in_ds))
    (λ ge. both-chain here joins time rules (order.both ge))

pub joining_keeps_each_chain : JoiningKeepsEachChain
joining_keeps_each_chain here joins algorithm time rules order same =
    joined here joins time (PublicChainByEach algorithm)
    (λ lt p in_ds. alone-each here joins time rules p in_ds algorithm same.mine
    (order.before lt p in_ds) (same.before lt p in_ds))
    (λ ge. both-each here joins time rules (order.both ge) algorithm same.mine (same.both ge))
