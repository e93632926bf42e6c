-- What an operator notes of a zone, and when that is true of the network.
use Rattle.std.specs.Prelude.{◌≡◌, ℕ, suc, ◌<◌, ◌≤◌, Bool, List, [], ◌∷◌, map, filter, nat_eq}
use Rattle.dnssec_run.specs.{declared.caches.ByKind.ByKind, ByKind.at_kind}
use Rattle.dnssec_run.specs.Safe.{SetKind, Ds, Dnskey, ZoneSigners, kind_of}
use Rattle.dnssec_network.specs.declared.fact.{Fact.Fact, News.News}
use Rattle.dnssec_network.specs.declared.fact.News.TheVariants.{Published, Everywhere}
use Rattle.dnssec_network.specs.Network.{Network}

-- ---- kinds

abbrev pub kind_number : SetKind → ℕ
kind_number Ds = 0
kind_number Dnskey = 1
kind_number ZoneSigners = 2

abbrev pub same_kind : SetKind → SetKind → Bool
same_kind a b = nat_eq (kind_number a) (kind_number b)

-- ---- what is noted

-- the highest TTLs from before the first call
abbrev pub Before : Type 0
Before = ByKind ℕ

abbrev pub ttl_before : Before → SetKind → ℕ
ttl_before before kind = at_kind before kind

-- what was noted of a kind, in this order
abbrev pub news_of : SetKind → List Fact → List News
news_of kind facts =
    map (λ (fact : Fact). fact.news)
    (filter (λ (fact : Fact). same_kind (kind_of fact.kind) kind) facts)

-- the moment of news
abbrev pub moment_of : News → ℕ
moment_of (Published position ttl moment) = moment
moment_of (Everywhere moment) = moment

-- ---- when it is true

-- Up to a time the news of a kind are true. They go on from the version of this number, the newest
-- so far.
abbrev pub AreTrueFrom : Network → SetKind → ℕ → ℕ → List News → Type 0
AreTrueFrom network kind time n [] = Unit {0}
-- the next version has the sets of this position and no higher TTL than this, and no server gives
-- it before this moment
AreTrueFrom network kind time n (Published position ttl moment ∷ later) =
    (network.position kind (suc n) ≡ position)
    × (network.ttl kind (suc n) ≤ ttl)
    × ((server t : ℕ) → server < network.servers kind → t ≤ time →
    n < network.version kind server t → moment ≤ t)
    × AreTrueFrom network kind time (suc n) later
-- at this moment each server gave the newest version, or a later one
AreTrueFrom network kind time n (Everywhere moment ∷ later) =
    ((server : ℕ) → server < network.servers kind → moment ≤ time →
    n ≤ network.version kind server moment)
    × AreTrueFrom network kind time n later

-- up to a time the facts are true of the network, and what was there before the first call had no
-- higher TTLs
abbrev pub AreTrue : Before → List Fact → Network → ℕ → Type 0
AreTrue before facts network time = (kind : SetKind) →
    (network.ttl kind 0 ≤ ttl_before before kind)
    × AreTrueFrom network kind time 0 (news_of kind facts)
