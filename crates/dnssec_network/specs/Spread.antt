-- How far the versions of one kind of sets have spread, by what is noted of them, and the TTL with
-- which a report is then true.
use Rattle.std.specs.Prelude.{ℕ, ◌+◌, ◌*◌, ◌-◌, ◌/◌, ◌&&◌, max, fold, List}
use Rattle.std.specs.Prelude.{Option, None, Some, if◌then◌else◌, is_none, nat_le, nat_lt, unwrap_or}
use Rattle.dnssec_network.specs.declared.fact.News.{News}
use Rattle.dnssec_network.specs.declared.fact.News.TheVariants.{Published, Everywhere}
use Rattle.dnssec_network.specs.declared.spread.Spread.{Spread}

-- A report speaks of sets that came at position `base`. Older versions are those that have the sets
-- of positions before it.

-- before the first call: one version, with its TTL
abbrev pub first_spread : ℕ → Spread
first_spread ttl = record { position = 0; ttl = ttl; older = None; seen = 0; expired = 0 }

-- the highest TTL of older versions that servers may still give, after the newest has a successor
abbrev pub older_after : ℕ → Spread → Option ℕ
older_after base s =
    if nat_lt s.position base then Some (max (unwrap_or s.older 0) s.ttl) else s.older

-- a version is published
abbrev pub after_publishing : ℕ → ℕ → ℕ → Spread → Spread
after_publishing base position ttl s = record {
  position = position;
  ttl = ttl;
  older = older_after base s;
  seen = s.seen;
  expired = s.expired;
}

-- the time from which no cache holds what it got before a moment, with this TTL; caches count whole
-- seconds, from any part of one
abbrev pub end_of : ℕ → ℕ → ℕ
end_of moment ttl = moment + ttl * 1_000_000_000 + 999_999_999

-- the time from which no cache holds an older version, after no server gives one any more
abbrev pub expired_after : ℕ → Option ℕ → ℕ → ℕ
expired_after moment None expired = expired
expired_after moment (Some ttl) expired = max expired (end_of moment ttl)

-- all servers gave the newest version
abbrev pub after_seeing : ℕ → Spread → Spread
after_seeing moment s = record {
  position = s.position;
  ttl = s.ttl;
  older = None;
  seen = moment;
  expired = expired_after moment s.older s.expired;
}

-- one more thing is noted
abbrev pub after : ℕ → Spread → News → Spread
after base s (Published position ttl moment) = after_publishing base position ttl s
after base s (Everywhere moment) = after_seeing moment s

-- all that is noted, of a kind that had this TTL before the first call
abbrev pub known : ℕ → ℕ → List News → Spread
known base ttl news = fold (after base) (first_spread ttl) news

-- the seconds from a moment to a time, rounded up
abbrev pub seconds_left : ℕ → ℕ → ℕ
seconds_left end now = (end - now + 999_999_999) / 1_000_000_000

-- the same, if that number can be a TTL
abbrev pub seconds_until : ℕ → ℕ → Option ℕ
seconds_until end now =
    if nat_le (seconds_left end now) 4_294_967_295 then Some (seconds_left end now) else None

-- the TTL with which a report at the moment is true; none as long as servers may give an older
-- version
abbrev pub due_for : ℕ → Spread → ℕ → Option ℕ
due_for base s now =
    if nat_le base s.position && is_none s.older && nat_le s.seen now
    then seconds_until s.expired now else None
