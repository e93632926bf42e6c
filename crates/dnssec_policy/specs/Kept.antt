-- Validators that ask for a chain by each algorithm of a DS set, also after they have dropped the
-- set: with a DNSKEY set in a cache they keep the algorithms of the DS set by which they checked
-- it.
use Rattle.std.specs.Prelude.{◌≡◌, ℕ, ◌+◌, ◌*◌, ◌<◌, ◌≤◌, ◌⊎◌, true, List, slice_get, Some}
use Rattle.std.specs.List.{Contains}
use Rattle.dnssec_run.specs.ByAlgorithm.{TrustsZoneBy, algorithm_of}
use Rattle.dnssec_run.specs.declared.{call.Call.Call, record.Entry.Entry}
use Rattle.dnssec_run.specs.{Published.Id, Record.IsRun}
use Rattle.dnssec_run.specs.Safe.{SetKind, Ds, Dnskey, ZoneSigners, position_at}
use Rattle.dnssec_network.specs.ByAlgorithm.{FindChainByEach}
use Rattle.dnssec_network.specs.Network.{IsGiven, IsNetworkOf, MayBeHeld, Network}
use Rattle.dnssec_network.specs.Reports.{NoneGoesBack}
use Rattle.dnssec_policy.specs.{Automatic.IsSaid, Automatic.is_add, Ttls.keeps}

-- ---- as if DS sets were held for longer

abbrev pub kept_ttl : ℕ → SetKind → ℕ → ℕ
kept_ttl seconds Ds ttl = ttl + seconds
kept_ttl seconds Dnskey ttl = ttl
kept_ttl seconds ZoneSigners ttl = ttl

-- the same network, but caches hold each DS set for so many seconds more
abbrev pub keeping : ℕ → Network → Network
keeping seconds network = record network {
  ttl = λ kind v. kept_ttl seconds kind (network.ttl kind v);
}

-- ---- automatic calls, by the TTLs of DNSKEY sets that were noted

-- each call adds a key, or was said by notes of some DNSKEY set with which validators keep
-- algorithms for so many seconds
abbrev pub IsAutomaticKeeping : ℕ → List ℕ → List Call → List Entry → Network → ℕ → Type 0
IsAutomaticKeeping seconds name calls entries network time =
    (n : ℕ) (call : Call) → slice_get calls n ≡ Some call →
    (is_add call ≡ true) ⊎ ((said : IsSaid name calls entries network time n call)
    × (seconds ≤ keeps said.view.highest))

-- then validators find a chain by each algorithm, also of a DS set that they dropped so many
-- seconds ago
abbrev pub AutomaticRunsServeKeepers : Type 0
AutomaticRunsServeKeepers =
    (name : List ℕ) (calls : List Call) (entries : List Entry) (network : Network)
    (time seconds : ℕ) →
    IsRun name calls entries → IsAutomaticKeeping seconds name calls entries network time →
    IsNetworkOf entries (keeping seconds network) time → NoneGoesBack entries network time →
    FindChainByEach calls entries (keeping seconds network) time

-- ---- DNSKEY sets that were checked

-- a validator holds this DNSKEY set at the time, and has checked it by this DS set
pub record IsHeldBy (network : Network) (ds dnskey time : ℕ) : Type 0 where
  pub since : ℕ
  pub checked : ℕ
  pub given : IsGiven network Dnskey dnskey since
  pub got : since ≤ checked
  pub by : MayBeHeld network Ds ds checked
  pub past : checked ≤ time
  pub lasts : time < since + (network.ttl Dnskey dnskey + 1) * 1_000_000_000

-- If no DNSKEY set has a higher TTL than the notes have, each algorithm of that DS set has a key in
-- the DNSKEY set that signs whatever the validator holds of the zone.
abbrev pub KeptAlgorithmsSign : Type 0
KeptAlgorithmsSign =
    (name : List ℕ) (calls : List Call) (entries : List Entry) (network : Network)
    (time seconds p q z : ℕ) (k : Id) →
    IsRun name calls entries → IsAutomaticKeeping seconds name calls entries network time →
    IsNetworkOf entries (keeping seconds network) time → NoneGoesBack entries network time →
    network.ttl Dnskey q < seconds →
    IsHeldBy network p q time → MayBeHeld network ZoneSigners z time →
    Contains (position_at entries (network.position Ds p)).ds k →
    TrustsZoneBy (algorithm_of calls) (algorithm_of calls k)
    (position_at entries (network.position Dnskey q))
    (position_at entries (network.position ZoneSigners z))
