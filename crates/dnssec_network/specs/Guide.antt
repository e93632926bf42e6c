-- The rules of the guide for two signers (docs/OPERATORS.md, "A zone with two signers"), and what
-- resolvers find if both keep them.
use Rattle.std.specs.Prelude.{◌≡◌, ℕ, suc, ◌+◌, ◌*◌, ◌<◌, ◌≤◌, ◌⊎◌, max, List, [], ◌++◌, length}
use Rattle.std.specs.{Prelude.map, Prelude.true, List.Contains}
use Rattle.dnssec_run.specs.Published.{Id}
use Rattle.dnssec_run.specs.Safe.{Dnskey, Ds, ZoneSigners, position_at, retires}
use Rattle.dnssec_network.specs.Network.{IsGiven, IsPublished, MayBeHeld, PastReport}
use Rattle.dnssec_network.specs.TwoSigners.{HasKey, HasKeysSince, IsNow, KeepsAlgorithms}
use Rattle.dnssec_network.specs.TwoSigners.{KeepsRules, PublicChain, PublicChainByEach}
use Rattle.dnssec_network.specs.TwoSigners.{PublishesKeysOf, Signer, SignsZone, shown}

-- ---- rules 1 and 2: each other's keys

-- from this time on both records speak of the zone
abbrev pub both_from : Signer → Signer → ℕ
both_from one other = max one.network.start other.network.start

-- The signer has reported the DNSKEY set of its position `base`, with this moment. What its record
-- begins with counts as reported at its start.
abbrev pub IsReported : Signer → ℕ → ℕ → ℕ → Type 0
IsReported signer time base moment =
    ((base ≡ signer.network.first) × (moment ≡ signer.network.start))
    ⊎ ((r : PastReport signer.entries signer.network time)
    × (retires r.roll r.second Dnskey ≡ true) × (r.base ≡ base) × (r.moment ≡ moment))

-- the position whose DNSKEY set a server of this signer gives at a time
abbrev pub given_at : Signer → ℕ → ℕ → ℕ
given_at s server t = s.network.position Dnskey (s.network.version Dnskey server t)

-- at a time some server gives the DNSKEY set of this position, or has still to get it
pub record IsUnderWay (s : Signer) (p t : ℕ) : Type 0 where
  pub server : ℕ
  pub asked : server < s.network.servers Dnskey
  pub given : given_at s server t ≤ p
  pub published : IsPublished s.entries s.network p t

-- Up to a time the keeper and the signer keep rules 1 and 2, of the signer's keys.
pub record KeepKeyRules (keeper signer : Signer) (time : ℕ) : Type 0 where
  -- 1. The signer's new key is in the keeper's set before its first report.
  -- 2. It reports at a moment at which each server of the keeper gives it.
  pub comes : (base moment p : ℕ) → IsReported signer time base moment →
      IsUnderWay keeper p (max moment (both_from keeper signer)) →
      HasKeysSince keeper p signer base (max moment (both_from keeper signer))
  -- 1. An old key leaves the keeper's set only after it has left the signer's own: after the
  -- second wait, or an early end.
  pub stays : (p q : ℕ) (k : Id) → suc p ≤ length keeper.entries →
      both_from keeper signer < keeper.network.made (suc p) →
      keeper.network.made (suc p) ≤ time →
      IsNow signer (keeper.network.made (suc p)) q →
      SignsZone signer k → Contains (position_at signer.entries q).dnskey k →
      HasKey keeper p signer k → HasKey keeper (suc p) signer k
  -- 2. A report counts the TTL of the keeper's sets, and a second: what lasts longer than that of
  -- the report has the keys already
  pub counted : (r : PastReport signer.entries signer.network time) →
      retires r.roll r.second Dnskey ≡ true → both_from keeper signer < r.moment →
      (v t : ℕ) → t < r.moment → IsGiven keeper.network Dnskey v t →
      r.moment + r.ttl * 1_000_000_000
      < t + (keeper.network.ttl Dnskey v + 1) * 1_000_000_000 →
      HasKeysSince keeper (keeper.network.position Dnskey v) signer r.base r.moment
  -- and its moment lies after its step
  pub after : (r : PastReport signer.entries signer.network time) →
      retires r.roll r.second Dnskey ≡ true → signer.network.made r.base ≤ r.moment
  -- Who joins is asked only after caches have dropped sets without the keys that are reported.
  pub joins : (base moment v : ℕ) → IsReported signer time base moment →
      moment ≤ both_from keeper signer →
      MayBeHeld keeper.network Dnskey v (both_from keeper signer) →
      HasKeysSince keeper (keeper.network.position Dnskey v) signer base (both_from keeper signer)
  -- no server goes back
  pub onwards : (server early late : ℕ) → server < keeper.network.servers Dnskey →
      keeper.network.start ≤ early → early ≤ late → late ≤ time →
      given_at keeper server early ≤ given_at keeper server late

-- so what caches hold of the keeper has the signer's keys
abbrev pub KeyRulesSuffice : Type 0
KeyRulesSuffice = (keeper signer : Signer) (time : ℕ) →
    KeepsRules keeper time → KeepsRules signer time → KeepKeyRules keeper signer time →
    PublishesKeysOf keeper signer time

-- ---- rules 3 and 4: DS together

-- a DS set of the parent: the keys of both `ds=`
abbrev pub ds_of_both : Signer → Signer → ℕ → List ℕ
ds_of_both one other v =
    map one.public (shown one Ds v).ds ++ map other.public (shown other Ds v).ds

-- it has a key of this signer
abbrev pub HasDs : Signer → ℕ → Type 0
HasDs s v = (k : Id) × Contains (shown s Ds v).ds k

-- Up to a time the parent has the keys of both, in each version that caches may hold.
pub record HaveDsTogether (one other : Signer) (time : ℕ) : Type 0 where
  -- 3. One change at a time: a version has the sets of one position of each.
  pub same : (v : ℕ) → MayBeHeld one.network Ds v time → MayBeHeld other.network Ds v time
  -- 4. No DS of one only.
  pub both : (v : ℕ) → MayBeHeld one.network Ds v time →
      (ds_of_both one other v ≡ []) ⊎ (HasDs one v × HasDs other v)

-- ---- what resolvers find

-- Whatever DS set, DNSKEY set of the keeper with its signatures, and sets of the zone that the
-- signer signed caches hold at this time, this is so of their public keys.
abbrev pub OfBoth : Signer → Signer → ℕ → (List ℕ → List ℕ → List ℕ → List ℕ → Type 0) → Type 0
OfBoth keeper signer time P = (p q z : ℕ) →
    MayBeHeld keeper.network Ds p time →
    MayBeHeld keeper.network Dnskey q time →
    MayBeHeld signer.network ZoneSigners z time →
    P (ds_of_both keeper signer p)
    (map keeper.public (shown keeper Dnskey q).dnskey)
    (map keeper.public (shown keeper Dnskey q).signers)
    (map signer.public (shown signer ZoneSigners z).zone)

-- if both keep the guide's rules, they have a chain of trust
abbrev pub GuideGivesChain : Type 0
GuideGivesChain = (keeper signer : Signer) (time : ℕ) →
    KeepsRules keeper time → KeepsRules signer time →
    KeepKeyRules keeper signer time → HaveDsTogether keeper signer time →
    OfBoth keeper signer time PublicChain

-- ---- rule 5: the same algorithms

-- both keep sets whole, and each has a DS of each algorithm of which the other has one
pub record HaveSameAlgorithms (one other : Signer) (algorithm : ℕ → ℕ) (time : ℕ) : Type 0 where
  pub mine : KeepsAlgorithms one algorithm
  pub others : KeepsAlgorithms other algorithm
  pub there : (v : ℕ) (k : Id) → MayBeHeld one.network Ds v time →
      Contains (shown one Ds v).ds k → (own : Id) × Contains (shown other Ds v).ds own
      × (algorithm (other.public own) ≡ algorithm (one.public k))
  pub back : (v : ℕ) (k : Id) → MayBeHeld one.network Ds v time →
      Contains (shown other Ds v).ds k → (own : Id) × Contains (shown one Ds v).ds own
      × (algorithm (one.public own) ≡ algorithm (other.public k))

-- then they have a chain by each algorithm
abbrev pub GuideGivesEachChain : Type 0
GuideGivesEachChain = (keeper signer : Signer) (algorithm : ℕ → ℕ) (time : ℕ) →
    KeepsRules keeper time → KeepsRules signer time →
    KeepKeyRules keeper signer time → HaveDsTogether keeper signer time →
    HaveSameAlgorithms keeper signer algorithm time →
    OfBoth keeper signer time (PublicChainByEach algorithm)
