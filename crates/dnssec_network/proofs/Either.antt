-- Sets of either of two signers: while both keep the rules for two, and of the one alone.
use Rattle.std.proofs.Common.{List, [], ap, arith, inl, inr, map, refl, ℕ, ◌∙◌, ◌∷◌, ◌≡◌, ◌⊎◌}
use Rattle.std.proofs.lemmas.List.Elements.{Contains-append_cases, Contains-append_left}
use Rattle.std.specs.List.{Contains}
use Rattle.dnssec_run.specs.{Published.Id, Safe.Dnskey, Safe.Ds, Safe.SetKind, Safe.ZoneSigners}
use Rattle.dnssec_network.proofs.Guide.{dnskey_of, ds_of_keeper, ds_of_signer, each_of_keeper}
use Rattle.dnssec_network.proofs.Guide.{each_of_signer, from_mapped, key_rules_suffice, keys_of}
use Rattle.dnssec_network.proofs.Guide.{mapped, signed_by, signers_of, zone_of}
use Rattle.dnssec_network.proofs.TwoSigners.{each_publishes_its_own, two_signers_find_chain}
use Rattle.dnssec_network.proofs.TwoSigners.{two_signers_find_each_chain}
use Rattle.dnssec_network.specs.Either.{BothKeepRules, HaveDsOfOne, HaveDsOfOneByEach, One, Other}
use Rattle.dnssec_network.specs.Either.{OfEither, Which, signer_of}
use Rattle.dnssec_network.specs.{Guide.HaveSameAlgorithms, Guide.ds_of_both, Network.MayBeHeld}
use Rattle.dnssec_network.specs.TwoSigners.{HasDsOf, HasEachAlgorithm, KeepsAlgorithms, KeepsRules}
use Rattle.dnssec_network.specs.TwoSigners.{PublicChain, PublicChainByEach, PublishesKeysOf, Signer}
use Rattle.dnssec_network.specs.TwoSigners.{shown}

-- ---- by whichever phase

-- what is so of all sets that caches hold of both
abbrev pub WhileBoth : Signer → Signer → ℕ → (List ℕ → List ℕ → List ℕ → List ℕ → Type 0)
    → Type 0
WhileBoth one other time P = OfEither one other time (ds_of_both one other)
    (λ w kind v. MayBeHeld (signer_of one other w).network kind v time) P

-- and of all that they hold of the one, with this DS set
abbrev pub OfOne : Signer → ℕ → List ℕ → (List ℕ → List ℕ → List ℕ → List ℕ → Type 0) → Type 0
OfOne one time ds P = (q z : ℕ) → MayBeHeld one.network Dnskey q time
    → MayBeHeld one.network ZoneSigners z time
    → P ds (dnskey_of one q) (signers_of one q) (zone_of one z)

-- if caches hold nothing of the other
pub only-one : (one other : Signer) (time : ℕ) (ds : List ℕ) (held : Which → SetKind → ℕ → Type 0)
    (P : List ℕ → List ℕ → List ℕ → List ℕ → Type 0)
    → ((kind : SetKind) (v : ℕ) → held One kind v → MayBeHeld one.network kind v time)
    → ((v : ℕ) → held Other Dnskey v → ⊥) → ((v : ℕ) → held Other ZoneSigners v → ⊥)
    → OfOne one time ds P → (keeper signer : Which) (q z : ℕ) → held keeper Dnskey q
    → held signer ZoneSigners z
    → P ds (dnskey_of (signer_of one other keeper) q) (signers_of (signer_of one other keeper) q)
    (zone_of (signer_of one other signer) z)
only-one one other time ds held P mine no_keys no_zone of One One q z keys zone =
    of q z (mine Dnskey q keys) (mine ZoneSigners z zone)
only-one one other time ds held P mine no_keys no_zone of One Other q z keys zone =
    absurd (no_zone z zone)
only-one one other time ds held P mine no_keys no_zone of Other signer q z keys zone =
    absurd (no_keys q keys)

module _ (one other : Signer) (time : ℕ) (rules : KeepsRules one time) where
  -- ---- both keep the rules for two

  module _ (both : BothKeepRules one other time) where
    each-keeps : (w : Which) → KeepsRules (signer_of one other w) time
    each-keeps One = rules
    each-keeps Other = both.0

    publishes : (keeper signer : Which)
        → PublishesKeysOf (signer_of one other keeper) (signer_of one other signer) time
    publishes One One = each_publishes_its_own one time rules
    publishes One Other = key_rules_suffice one other time rules both.0 both.1
    publishes Other One = key_rules_suffice other one time both.0 rules both.2
    publishes Other Other = each_publishes_its_own other time both.0

    has-ds : (w : Which) (p : ℕ) → MayBeHeld one.network Ds p time
        → HasDsOf (signer_of one other w) time (ds_of_both one other p)
    has-ds One p held = ds_of_keeper one other time both.3 p held
    has-ds Other p held = ds_of_signer one other time both.3 p held

    abbrev k : Which → Signer
    k w = signer_of one other w

    pub both-chain : WhileBoth one other time PublicChain
    both-chain keeper signer p q z in_ds keys zone = two_signers_find_chain (k keeper) (k signer)
        time (ds_of_both one other p) (dnskey_of (k keeper) q) (signers_of (k keeper) q)
        (zone_of (k signer) z) (each-keeps keeper) (each-keeps signer) (publishes keeper signer)
        (has-ds keeper p in_ds) (has-ds signer p in_ds) (keys_of (k keeper) time q keys)
        (signed_by (k signer) time z zone)

    module _ (algorithm : ℕ → ℕ) (mine : KeepsAlgorithms one algorithm)
        (same : HaveSameAlgorithms one other algorithm time) where
      each-has : (w : Which) (p : ℕ) (in_ds : MayBeHeld one.network Ds p time)
          → HasEachAlgorithm (k w) algorithm time (ds_of_both one other p) (has-ds w p in_ds)
      unfolding has-ds
      each-has One p in_ds = each_of_keeper one other time both.3 p in_ds algorithm same
      each-has Other p in_ds = each_of_signer one other time both.3 p in_ds algorithm same

      whole : (w : Which) → KeepsAlgorithms (k w) algorithm
      whole One = mine
      whole Other = same.others

      pub both-each : WhileBoth one other time (PublicChainByEach algorithm)
      both-each keeper signer p q z in_ds keys zone = two_signers_find_each_chain (k keeper)
          (k signer) algorithm time (ds_of_both one other p) (dnskey_of (k keeper) q)
          (signers_of (k keeper) q) (zone_of (k signer) z) (each-keeps keeper)
          (each-keeps signer) (publishes keeper signer) (whole keeper) (whole signer)
          (has-ds keeper p in_ds) (each-has keeper p in_ds) (has-ds signer p in_ds)
          (each-has signer p in_ds) (keys_of (k keeper) time q keys)
          (signed_by (k signer) time z zone)

  -- ---- the one alone

  module _ (p : ℕ) (in_ds : MayBeHeld one.network Ds p time) where
    -- the DS set has keys of the other too
    has-some : HaveDsOfOne one other p → HasDsOf one time (ds_of_both one other p)
    has-some some = record {
      version = p;
      held = in_ds;
      has = λ k c. Contains-append_left (map one.public (shown one Ds p).ds)
          (map other.public (shown other Ds p).ds) (one.public k)
          (mapped one.public (shown one Ds p).ds k c);
      some = some;
    }

    some-of : (ids : List Id) → (map one.public ids ≡ []) ⊎ ((k : Id) × Contains ids k)
    some-of [] = inl refl
    some-of (k ∷ ids) = inr (k, (0, omega arith, refl))

    -- or only its own
    has-own : HasDsOf one time (map one.public (shown one Ds p).ds)
    has-own = record {
      version = p;
      held = in_ds;
      has = mapped one.public (shown one Ds p).ds;
      some = some-of (shown one Ds p).ds;
    }

    chain-of : (ds : List ℕ) → HasDsOf one time ds → OfOne one time ds PublicChain
    chain-of ds of q z keys zone = two_signers_find_chain one one time ds (dnskey_of one q)
        (signers_of one q) (zone_of one z) rules rules (each_publishes_its_own one time rules) of
        of (keys_of one time q keys) (signed_by one time z zone)

    pub alone-chain : HaveDsOfOne one other p → OfOne one time (ds_of_both one other p) PublicChain
    alone-chain some = chain-of (ds_of_both one other p) (has-some some)

    pub own-chain : OfOne one time (map one.public (shown one Ds p).ds) PublicChain
    own-chain = chain-of (map one.public (shown one Ds p).ds) has-own

    module _ (algorithm : ℕ → ℕ) (mine : KeepsAlgorithms one algorithm) where
      each-of : (ds : List ℕ) (of : HasDsOf one time ds) → HasEachAlgorithm one algorithm time ds of
          → OfOne one time ds (PublicChainByEach algorithm)
      each-of ds of all q z keys zone = two_signers_find_each_chain one one algorithm time ds
          (dnskey_of one q) (signers_of one q) (zone_of one z) rules rules
          (each_publishes_its_own one time rules) mine mine of all of all
          (keys_of one time q keys) (signed_by one time z zone)

      each-own : HasEachAlgorithm one algorithm time (map one.public (shown one Ds p).ds) has-own
      unfolding has-own
      each-own d c =
          let k = from_mapped one.public (shown one Ds p).ds d c in
          (k.0, k.1, ap algorithm k.2)

      each-some : (some : HaveDsOfOne one other p) → HaveDsOfOneByEach one other algorithm p
          → HasEachAlgorithm one algorithm time (ds_of_both one other p) (has-some some)
      unfolding has-some
      each-some some each d c = elim (Contains-append_cases
          (map one.public (shown one Ds p).ds) (map other.public (shown other Ds p).ds) d c) [
            | inl own ↦
                let k = from_mapped one.public (shown one Ds p).ds d own in
                (k.0, k.1, ap algorithm k.2)
            | inr its ↦
                let k = from_mapped other.public (shown other Ds p).ds d its in
                let own = each k.0 k.1 in
                (own.0, own.1, own.2 ∙ ap algorithm k.2)
          ]

      pub alone-each : HaveDsOfOne one other p → HaveDsOfOneByEach one other algorithm p
          → OfOne one time (ds_of_both one other p) (PublicChainByEach algorithm)
      alone-each some each =
          each-of (ds_of_both one other p) (has-some some) (each-some some each)

      pub own-each : OfOne one time (map one.public (shown one Ds p).ds)
          (PublicChainByEach algorithm)
      own-each = each-of (map one.public (shown one Ds p).ds) has-own each-own
