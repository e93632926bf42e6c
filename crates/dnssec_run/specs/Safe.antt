-- When a record is safe: all of it that caches may still hold has a chain of trust. Nothing here
-- knows of flags, stamps or phases, only of what was published, of reports, and of moments.
use Rattle.std.specs.Prelude.{◌≡◌, ℕ, zero, suc, ◌+◌, ◌*◌, ◌<◌, ◌≤◌, ◌⊎◌, max, Bool, true, false}
use Rattle.std.specs.Prelude.{List, [], map, if◌then◌else◌, slice_get, Option, None, Some}
use Rattle.std.specs.Prelude.{unwrap_or}
use Rattle.std.specs.List.{Contains}
use Rattle.std.specs.Option.{option_map_or}
use Rattle.dnssec_key.specs.declared.roll.RollType.{RollType}
use Rattle.dnssec_key.specs.declared.roll.RollType.TheVariants.{KskRoll, KskDoubleDsRoll}
use Rattle.dnssec_key.specs.declared.roll.RollType.TheVariants.{ZskRoll, ZskDoubleSignatureRoll}
use Rattle.dnssec_key.specs.declared.roll.RollType.TheVariants.{CskRoll, AlgorithmRoll}
use Rattle.dnssec_zone.specs.Rolls.{same_roll}
use Rattle.dnssec_run.specs.declared.caches.SetKind.{SetKind as Kind}
use Rattle.dnssec_run.specs.declared.caches.SetKind.TheVariants as code
use Rattle.dnssec_run.specs.declared.record.Mark.{Mark}
use Rattle.dnssec_run.specs.declared.record.Mark.TheVariants.{Other, Step, Report}
use Rattle.dnssec_run.specs.declared.record.Entry.{Entry}
use Rattle.dnssec_run.specs.Published.{Id, id_of}

-- ---- what a position says

-- the moment and the mark of its call, and what is published after it
pub record Position : Type 0 where
  pub moment : Option ℕ
  pub mark : Mark
  pub ds : List Id  -- the DS set
  pub dnskey : List Id  -- the DNSKEY set
  pub signers : List Id  -- the keys that sign the DNSKEY set
  pub zone : List Id  -- the keys that sign the zone

-- position 0 is the new set: nothing is published
abbrev pub blank : Position
blank = record { moment = None; mark = Other; ds = []; dnskey = []; signers = []; zone = [] }

-- what an entry says
abbrev pub position_of : Entry → Position
position_of entry = record {
  moment = entry.moment;
  mark = entry.mark;
  ds = map id_of entry.published.ds.items;
  dnskey = map id_of entry.published.dnskey.items;
  signers = map id_of entry.published.dnskey_signers.items;
  zone = map id_of entry.published.zone_signers.items;
}

-- position n is that after call n
unfoldable pub position_at : List Entry → ℕ → Position
position_at entries zero = blank
position_at entries (suc n) = option_map_or position_of (slice_get entries n) blank

-- ---- what a report retires (RFC 6781, section 4.1; RFC 7583, section 3)

-- the sets that caches hold: DS sets, DNSKEY sets with their signers, and sets of zone signers
pub data SetKind : Type 0 where
  Ds : SetKind
  Dnskey : SetKind
  ZoneSigners : SetKind

-- the kind that the code means
abbrev pub kind_of : Kind → SetKind
kind_of code.Ds = Ds
kind_of code.Dnskey = Dnskey
kind_of code.ZoneSigners = ZoneSigners

-- the sets that a report speaks of, by its roll; the second report is `true`
abbrev pub retires : RollType → Bool → SetKind → Bool
retires KskRoll false Dnskey = true
retires KskRoll true Ds = true
retires KskDoubleDsRoll false Ds = true
retires KskDoubleDsRoll true Dnskey = true
retires ZskRoll false Dnskey = true
retires ZskRoll true ZoneSigners = true
retires ZskDoubleSignatureRoll _ Dnskey = true
retires ZskDoubleSignatureRoll _ ZoneSigners = true
retires CskRoll false Dnskey = true
retires CskRoll true Ds = true
retires CskRoll true ZoneSigners = true
retires AlgorithmRoll false Dnskey = true
retires AlgorithmRoll false ZoneSigners = true
retires AlgorithmRoll true Ds = true
retires _ _ _ = false

-- the mark of an accepted start or first wait of the roll
abbrev pub is_step : RollType → Mark → Bool
is_step roll (Step other) = same_roll roll other
is_step roll _ = false

-- what a report at position n counts from: the last start or first wait of its roll before n
unfoldable pub base_below : List Entry → RollType → ℕ → Option ℕ
base_below entries roll zero = None
base_below entries roll (suc n) =
    if is_step roll (position_at entries n).mark then Some n else base_below entries roll n

-- the time at a position: the greatest moment up to it
unfoldable pub time_at : List Entry → ℕ → ℕ
time_at entries zero = 0
time_at entries (suc n) =
    max (time_at entries n) (unwrap_or (position_at entries (suc n)).moment 0)

-- The set of position q is in no cache at n. A report up to n spoke of its kind, q lies before what
-- the report counts from, and the report's TTL has passed since its moment.
pub record IsGone (entries : List Entry) (kind : SetKind) (q n : ℕ) : Type 0 where
  pub at : ℕ
  pub roll : RollType
  pub second : Bool
  pub ttl : ℕ
  pub moment : ℕ
  pub base : ℕ
  pub within : at ≤ n
  pub mark : (position_at entries at).mark ≡ Report roll second ttl
  pub kind_is : retires roll second kind ≡ true
  pub base_is : base_below entries roll at ≡ Some base
  pub above : q < base
  pub moment_is : (position_at entries at).moment ≡ Some moment
  pub over : moment + ttl * 1_000_000_000 ≤ time_at entries n

-- the set of position q may still be in a cache at n
abbrev pub MayBeCached : List Entry → SetKind → ℕ → ℕ → Type 0
MayBeCached entries kind q n = (q ≤ n) × (IsGone entries kind q n → ⊥)

-- ---- the chain of trust (RFC 4035, section 5)

-- a key named by the DS set is in the DNSKEY set and signs it (RFC 4035, section 5.2)
abbrev pub TrustsKeys : Position → Position → Type 0
TrustsKeys p q = (k : Id) × Contains p.ds k × Contains q.dnskey k × Contains q.signers k

-- a key of the DNSKEY set signs the zone (RFC 4035, section 5.3)
abbrev pub TrustsZone : Position → Position → Type 0
TrustsZone q z = (k : Id) × Contains q.dnskey k × Contains z.zone k

-- the DS set of p, the DNSKEY set of q and the zone signers of z have a chain: there is no DS, or
-- both hold
abbrev pub HasChain : Position → Position → Position → Type 0
HasChain p q z = (p.ds ≡ []) ⊎ (TrustsKeys p q × TrustsZone q z)

-- whatever sets caches may hold at n, of whatever positions, have a chain
abbrev pub IsSafe : List Entry → ℕ → Type 0
IsSafe entries n = (p q z : ℕ) →
    MayBeCached entries Ds p n →
    MayBeCached entries Dnskey q n →
    MayBeCached entries ZoneSigners z n →
    HasChain (position_at entries p) (position_at entries q) (position_at entries z)
