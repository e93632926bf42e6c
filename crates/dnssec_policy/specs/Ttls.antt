-- The highest TTLs that are noted, and how long a report counts by them.
use Rattle.std.specs.Prelude.{◌≡◌, ℕ, ◌+◌, max, Bool, true, false, if◌then◌else◌, List}
use Rattle.std.specs.List.{fold}
use Rattle.dnssec_key.specs.declared.roll.RollType.{RollType}
use Rattle.dnssec_run.specs.declared.caches.SetKind.{SetKind as Kind}
use Rattle.dnssec_run.specs.declared.caches.SetKind.TheVariants as code
use Rattle.dnssec_run.specs.Safe.{SetKind, Ds, Dnskey, ZoneSigners, retires}
use Rattle.dnssec_network.specs.declared.fact.{Fact.Fact, News.News}
use Rattle.dnssec_network.specs.declared.fact.News.TheVariants.{Published, Everywhere}
use Rattle.dnssec_network.specs.Facts.{Before, news_of, ttl_before}
use Rattle.dnssec_policy.specs.declared.ttls.HighestTtls.{HighestTtls}

-- ---- the highest TTLs noted

abbrev pub higher_with : ℕ → News → ℕ
higher_with most (Published position ttl moment) = max most ttl
higher_with most (Everywhere moment) = most

-- the highest TTL of a kind that is noted, also from before the first call
abbrev pub highest_of : Before → List Fact → SetKind → ℕ
highest_of before facts kind = fold higher_with (ttl_before before kind) (news_of kind facts)

-- as the code keeps them
abbrev pub ttl_in : HighestTtls → SetKind → ℕ
ttl_in h Ds = h.ds
ttl_in h Dnskey = h.dnskey
ttl_in h ZoneSigners = h.zone

abbrev pub with_ttl : HighestTtls → Kind → ℕ → HighestTtls
with_ttl h code.Ds ttl = record { ds = max h.ds ttl; dnskey = h.dnskey; zone = h.zone }
with_ttl h code.Dnskey ttl = record { ds = h.ds; dnskey = max h.dnskey ttl; zone = h.zone }
with_ttl h code.ZoneSigners ttl = record { ds = h.ds; dnskey = h.dnskey; zone = max h.zone ttl }

abbrev pub after_news : HighestTtls → Kind → News → HighestTtls
after_news h kind (Published position ttl moment) = with_ttl h kind ttl
after_news h kind (Everywhere moment) = h

-- these are the highest TTLs of these notes
abbrev pub AreHighest : Before → List Fact → HighestTtls → Type 0
AreHighest before facts h = (kind : SetKind) → ttl_in h kind ≡ highest_of before facts kind

-- ---- how long a report counts

-- for so many seconds a validator may keep the algorithms of a DS set after it has dropped the set:
-- with a DNSKEY set that it checked, and a second more, as caches count whole ones
abbrev pub keeps : (SetKind → ℕ) → ℕ
keeps ttl = ttl Dnskey + 1

-- The TTL of a report, by the TTL that is due for what it speaks of. One that speaks of DS sets
-- also counts the algorithms that validators keep with DNSKEY sets; and CDS, a set of the zone,
-- which left before the report.
abbrev pub lasting : (SetKind → ℕ) → RollType → Bool → ℕ → ℕ
lasting ttl roll second due =
    if retires roll second Ds then max (due + keeps ttl) (ttl ZoneSigners + 1) else due

-- ---- how long a roll takes

abbrev pub if_retired : (SetKind → ℕ) → RollType → Bool → SetKind → ℕ
if_retired ttl roll second kind = if retires roll second kind then ttl kind else 0

-- the highest TTL of the kinds that a report speaks of, and a second, as caches count whole ones
-- from any part of one
abbrev pub at_most_due : (SetKind → ℕ) → RollType → Bool → ℕ
at_most_due ttl roll second =
    max (max (if_retired ttl roll second Ds) (if_retired ttl roll second Dnskey))
    (if_retired ttl roll second ZoneSigners) + 1

-- the wait after a report, in seconds
abbrev pub report_takes : (SetKind → ℕ) → RollType → Bool → ℕ
report_takes ttl roll second = lasting ttl roll second (at_most_due ttl roll second)

-- both waits
abbrev pub roll_takes : (SetKind → ℕ) → RollType → ℕ
roll_takes ttl roll = report_takes ttl roll false + report_takes ttl roll true
