-- One of two signers leaves: until it is over both keep the rules for two, and then caches have
-- nothing of it.
use Rattle.std.proofs.Common.{List, arith, inl, inr, map, sym, ℕ, ◌+◌, ◌*◌, ◌<◌, ◌≡◌, ◌≤◌}
use Rattle.std.proofs.lemmas.Bool.{cases_lt}
use Rattle.dnssec_run.proofs.Chain.Side.{or_map}
use Rattle.dnssec_run.specs.Safe.{Dnskey, Ds, SetKind, ZoneSigners}
use Rattle.dnssec_network.proofs.Either.{OfOne, WhileBoth, alone-chain, alone-each, both-chain}
use Rattle.dnssec_network.proofs.Either.{both-each, only-one, own-chain, own-each}
use Rattle.dnssec_network.proofs.Pairs.{keeps, signers_can_be_met}
use Rattle.dnssec_network.specs.Either.{OfEither, One, Other, Which, signer_of}
use Rattle.dnssec_network.specs.Guide.{ds_of_both}
use Rattle.dnssec_network.specs.Leaving.{Leave, LeavesInOrder, LeavingCanBeMet, LeavingKeepsChain}
use Rattle.dnssec_network.specs.Leaving.{LeavingKeepsEachChain, MayBeAsked, MayBeHeldOf}
use Rattle.dnssec_network.specs.{Leaving.NothingIsLeft, Leaving.ds_while_leaving, Network.MayBeHeld}
use Rattle.dnssec_network.specs.TwoSigners.{PublicChain, PublicChainByEach, Signer, shown}

-- ---- nothing is left

-- what was got while it might be asked isn't held any more
dropped : (leave : Leave) (since time ttl : ℕ) → leave.over ≤ time → MayBeAsked leave since
    → time < since + (ttl + 1) * 1_000_000_000
    → leave.out + (leave.ttl + 1 + ttl + 1) * 1_000_000_000 ≤ leave.over → ⊥
dropped leave since time ttl over asked lasts wait =
    absurd (omega (arith, over, asked.1, asked.2, asked.3, lasts, wait))

pub nothing_is_left : NothingIsLeft
nothing_is_left stays leaves leave v time order over = (
  λ kept. let held = kept.0 in
      dropped leave held.since time (leaves.network.ttl Dnskey v) over kept.1 held.lasts
      (order.keys v held.since held.got kept.1 held.given),
  λ kept. let held = kept.0 in
      dropped leave held.since time (leaves.network.ttl ZoneSigners v) over kept.1 held.lasts
      (order.zone v held.since held.got kept.1 held.given),
)

-- ---- which DS set

ds-of-both : (stays leaves : Signer) (leave : Leave) (v : ℕ) → v < leave.alone
    → ds_while_leaving stays leaves leave v ≡ ds_of_both stays leaves v
ds-of-both stays leaves leave v lt = grind (arith, lt)

ds-alone : (stays leaves : Signer) (leave : Leave) (v : ℕ) → leave.alone ≤ v
    → ds_while_leaving stays leaves leave v ≡ map stays.public (shown stays Ds v).ds
ds-alone stays leaves leave v ge = grind (arith, ge)

module _ (stays leaves : Signer) (leave : Leave) (time : ℕ)
    (order : LeavesInOrder stays leaves leave time) where
  -- one of the other alone isn't given before it is over
  of-both : time < leave.over → (p : ℕ) → MayBeHeld stays.network Ds p time
      → ds_while_leaving stays leaves leave p ≡ ds_of_both stays leaves p
  of-both lt p held = elim (cases_lt p leave.alone) [
    | inl below ↦ ds-of-both stays leaves leave p below
    | inr ge ↦
        let late = order.ds p held.since ge held.got held.given in
        absurd (omega (arith, lt, late, held.got))
  ]

  held-of : (w : Which) (kind : SetKind) (v : ℕ) → MayBeHeldOf stays leaves leave time w kind v
      → MayBeHeld (signer_of stays leaves w).network kind v time
  held-of One kind v held = held
  held-of Other kind v held = held.0

-- ---- at each time

-- both, or the one that stays: with the DS set of both, or its own
leaving : (stays leaves : Signer) (leave : Leave) (time : ℕ)
    (P : List ℕ → List ℕ → List ℕ → List ℕ → Type 0) → LeavesInOrder stays leaves leave time
    → (time < leave.over → WhileBoth stays leaves time P)
    → (leave.over ≤ time → (p : ℕ) → p < leave.alone → MayBeHeld stays.network Ds p time
    → OfOne stays time (ds_of_both stays leaves p) P)
    → ((p : ℕ) → MayBeHeld stays.network Ds p time
    → OfOne stays time (map stays.public (shown stays Ds p).ds) P)
    → OfEither stays leaves time (ds_while_leaving stays leaves leave)
    (MayBeHeldOf stays leaves leave time) P
leaving stays leaves leave time P order both alone own keeper signer p q z in_ds keys zone =
    elim (cases_lt time leave.over) [
      | inl lt ↦
          rw (of-both stays leaves leave time order lt p in_ds)
          (both lt keeper signer p q z in_ds
          (held-of stays leaves leave time order keeper Dnskey q keys)
          (held-of stays leaves leave time order signer ZoneSigners z zone))
      | inr over ↦
          only-one stays leaves time (ds_while_leaving stays leaves leave p)
          (MayBeHeldOf stays leaves leave time) P (λ kind v held. held)
          (λ v. (nothing_is_left stays leaves leave v time order over).0)
          (λ v. (nothing_is_left stays leaves leave v time order over).1)
          (elim (cases_lt p leave.alone) [
            | inl lt ↦ rw (ds-of-both stays leaves leave p lt) (alone over p lt in_ds)
            | inr ge ↦ rw (ds-alone stays leaves leave p ge) (own p in_ds)
          ]) keeper signer q z keys zone
    ]

pub leaving_keeps_chain : LeavingKeepsChain
leaving_keeps_chain stays leaves leave time rules order =
    leaving stays leaves leave time PublicChain order
    (λ lt. both-chain stays leaves time rules (order.both lt))
    (λ over p lt in_ds. alone-chain stays leaves time rules p in_ds (order.other over p lt in_ds))
    (λ p in_ds. own-chain stays leaves time rules p in_ds)

pub leaving_keeps_each_chain : LeavingKeepsEachChain
leaving_keeps_each_chain stays leaves leave algorithm time rules order same =
    leaving stays leaves leave time (PublicChainByEach algorithm) order
    (λ lt. both-each stays leaves time rules (order.both lt) algorithm same.mine (same.both lt))
    (λ over p lt in_ds. alone-each stays leaves time rules p in_ds algorithm same.mine
    (order.other over p lt in_ds) (same.other over p lt in_ds))
    (λ p in_ds. own-each stays leaves time rules p in_ds algorithm same.mine)

-- ---- two in step

pub leaving_can_be_met : LeavingCanBeMet
leaving_can_be_met first start ttl time stays leaves leave fits mine its count keys ds wait some
    late =
    let here = signers_can_be_met first start ttl time stays leaves fits mine its count
    (λ p. (keys p).0) ds in
    let there = signers_can_be_met first start ttl time leaves stays fits its mine (sym count)
    (λ p. (keys p).1) (λ p. or_map (ds p) (λ e. (e.1, e.0)) (λ h. (h.1, h.0))) in
    record {
      both = λ lt. (keeps first start ttl time leaves its fits, here.0, there.0, here.1);
      keys = λ v t le asked given. wait;
      zone = λ v t le asked given. wait;
      ds = λ v t ge le given. grind (arith, given.2, ge, some, late);
      other = λ over v lt held. or_map (here.1.both v held) (λ e. e) (λ h. h.0);
    }
