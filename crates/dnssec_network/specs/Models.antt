-- Networks that meet the premises: none of these is asked in vain, whatever the record.
use Rattle.std.specs.Prelude.{◌≡◌, ℕ, ◌+◌, ◌*◌, ◌-◌, ◌/◌, ◌<◌, ◌≤◌, Bool, List, length, min, Some}
use Rattle.std.specs.Prelude.{if◌then◌else◌, nat_lt}
use Rattle.dnssec_key.specs.declared.roll.RollType.{RollType}
use Rattle.dnssec_run.specs.declared.record.{Entry.Entry, Mark.TheVariants.Report}
use Rattle.dnssec_run.specs.Safe.{position_at}
use Rattle.dnssec_network.specs.Network.{IsNetworkOf, Network, NoneLiesAhead, ReportsAreTrue}
use Rattle.dnssec_network.specs.{Network.second_of, Reports.NoneGoesBack, Reports.ReportsAreByNotes}
use Rattle.dnssec_network.specs.Validity.{IsRenewed}

-- made at the start up to the position `first`, then one call each second
abbrev pub made_since : ℕ → ℕ → ℕ → ℕ
made_since first start n = start + (n - first) * 1_000_000_000

-- Two servers of each kind give what was published last, up to the position `last`, all with one
-- TTL, and signatures that outlast this time. Version 1 has the sets of the position `first`, and
-- is given from the start on; version 0 has equal ones.
abbrev pub prompt : ℕ → ℕ → ℕ → ℕ → ℕ → Network
prompt first start ttl time last = record {
  made = made_since first start;
  servers = λ kind. 2;
  version = λ kind server t. if nat_lt t start then 0
      else 1 + min ((t - start) / 1_000_000_000) (last - first);
  position = λ kind v. first + (v - 1);
  ttl = λ kind v. ttl;
  inception = λ kind v. 0;
  expiration = λ kind v. second_of time + ttl + 1;
  start = start;
  first = first;
}

-- each moment that was handed in is that of its call
abbrev pub IsByTheClock : ℕ → ℕ → List Entry → Type 0
IsByTheClock first start entries = (n moment : ℕ) →
    (position_at entries n).moment ≡ Some moment → moment ≡ made_since first start n

-- no report after the position `first` has a lower TTL
abbrev pub NoTtlBelow : ℕ → ℕ → List Entry → Type 0
NoTtlBelow first ttl entries = (n t : ℕ) (roll : RollType) (second : Bool) → first < n →
    (position_at entries n).mark ≡ Report roll second t → ttl ≤ t

-- all premises up to a time, those of reports by notes too
pub record MeetsPremises (entries : List Entry) (network : Network) (time : ℕ) : Type 0 where
  pub is : IsNetworkOf entries network time
  pub reports : ReportsAreTrue entries network time
  pub notes : ReportsAreByNotes entries network time
  pub back : NoneGoesBack entries network time
  pub ahead : NoneLiesAhead entries network time
  pub renewed : IsRenewed network time

-- Whatever the record, at which position and time it begins, and up to which time one asks.
abbrev pub PremisesCanBeMet : Type 0
PremisesCanBeMet = (first start ttl time : ℕ) (entries : List Entry) →
    first ≤ length entries →
    start ≤ time →
    ttl ≤ 4_294_967_295 →
    IsByTheClock first start entries →
    NoTtlBelow first ttl entries →
    MeetsPremises entries (prompt first start ttl time (length entries)) time
