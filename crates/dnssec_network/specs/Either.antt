-- Two signers of whom one is asked for a while only, as one that joins or leaves: sets of either.
use Rattle.std.specs.Prelude.{◌≡◌, ℕ, ◌⊎◌, List, [], map}
use Rattle.std.specs.List.{Contains}
use Rattle.dnssec_run.specs.{Published.Id, Safe.Dnskey, Safe.Ds, Safe.SetKind, Safe.ZoneSigners}
use Rattle.dnssec_network.specs.Guide.{HasDs, HaveDsTogether, KeepKeyRules, ds_of_both}
use Rattle.dnssec_network.specs.Network.{MayBeHeld}
use Rattle.dnssec_network.specs.TwoSigners.{KeepsRules, Signer, shown}

-- the one that is always asked, or the other
pub data Which : Type 0 where
  One : Which
  Other : Which

abbrev pub signer_of : Signer → Signer → Which → Signer
signer_of one other One = one
signer_of one other Other = other

-- up to a time the other keeps the rules of one signer, and both those for two
abbrev pub BothKeepRules : Signer → Signer → ℕ → Type 0
BothKeepRules one other time = KeepsRules other time × KeepKeyRules one other time
    × KeepKeyRules other one time × HaveDsTogether one other time

-- the keys of both `ds=` are none, or have one of the one
abbrev pub HaveDsOfOne : Signer → Signer → ℕ → Type 0
HaveDsOfOne one other v = (ds_of_both one other v ≡ []) ⊎ HasDs one v

-- and there is such a one of each algorithm of which the other has one
abbrev pub HaveDsOfOneByEach : Signer → Signer → (ℕ → ℕ) → ℕ → Type 0
HaveDsOfOneByEach one other algorithm v = (k : Id) → Contains (shown other Ds v).ds k →
    (own : Id) × Contains (shown one Ds v).ds own
    × (algorithm (one.public own) ≡ algorithm (other.public k))

-- Whatever DS set, DNSKEY set with its signatures, and sets of the zone caches hold at a time, of
-- whichever of the two, this is so of their public keys. Given are the DS set of a version, and
-- what caches may hold of each.
abbrev pub OfEither : Signer → Signer → ℕ → (ℕ → List ℕ) → (Which → SetKind → ℕ → Type 0)
    → (List ℕ → List ℕ → List ℕ → List ℕ → Type 0) → Type 0
OfEither one other time ds held P = (keeper signer : Which) (p q z : ℕ) →
    MayBeHeld one.network Ds p time →
    held keeper Dnskey q →
    held signer ZoneSigners z →
    P (ds p)
    (map (signer_of one other keeper).public (shown (signer_of one other keeper) Dnskey q).dnskey)
    (map (signer_of one other keeper).public (shown (signer_of one other keeper) Dnskey q).signers)
    (map (signer_of one other signer).public
    (shown (signer_of one other signer) ZoneSigners z).zone)
