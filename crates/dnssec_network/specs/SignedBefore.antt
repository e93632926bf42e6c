-- A zone that was signed before its record begins, and a new record in place of an old one: when
-- the record may begin, and that other keys beside those of the record do no harm.
use Rattle.std.specs.Prelude.{◌≡◌, ℕ, ◌+◌, ◌*◌, ◌<◌, ◌≤◌, List, length}
use Rattle.dnssec_run.specs.{declared.record.Entry.Entry, Safe.SetKind}
use Rattle.dnssec_network.specs.Network.{FindChain, IsPublished, MayBeHeld, Network}
use Rattle.dnssec_network.specs.TwoSigners.{HasDsOf, IsKeysOf, IsZoneOf, PublicChain, Signer}

-- From a time on up to the start all servers give sets that equal those of the position `first`,
-- and at the start the TTL of each version that they gave earlier is over, with a second more.
pub record IsSameEverywhere (network : Network) (since : ℕ) : Type 0 where
  pub equal : (kind : SetKind) (server t : ℕ) → server < network.servers kind →
      since ≤ t → t ≤ network.start →
      network.position kind (network.version kind server t) ≡ network.first
  pub over : (kind : SetKind) (server t : ℕ) → server < network.servers kind → t < since →
      since + (network.ttl kind (network.version kind server t) + 1) * 1_000_000_000
      ≤ network.start

-- then what caches may hold at the start is published, once the calls up to `first` are made
abbrev pub SameEverywhereSuffices : Type 0
SameEverywhereSuffices = (entries : List Entry) (network : Network) (since : ℕ) →
    IsSameEverywhere network since →
    network.first ≤ length entries →
    network.made network.first ≤ network.start →
    (kind : SetKind) (v : ℕ) → MayBeHeld network kind v network.start →
    IsPublished entries network (network.position kind v) network.start

-- What resolvers hold may be wider: the DS set has other keys too, the DNSKEY set other keys and
-- signers, the zone other signatures, as in a zone whose earlier keys leave only later. It has a
-- chain all the same, if the record has a DS wherever there is one.
abbrev pub WiderSetsHaveChain : Type 0
WiderSetsHaveChain = (s : Signer) (time : ℕ) (ds dnskey signers zone : List ℕ) →
    FindChain s.entries s.network time →
    HasDsOf s time ds →
    IsKeysOf s time dnskey signers →
    IsZoneOf s time zone →
    PublicChain ds dnskey signers zone
