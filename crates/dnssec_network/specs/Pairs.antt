-- Two signers that meet the guide's rules: none of these is asked in vain.
use Rattle.std.specs.Prelude.{◌≡◌, ℕ, ◌≤◌, ◌⊎◌, [], length, max}
use Rattle.std.specs.List.{Contains}
use Rattle.dnssec_run.specs.{Plain.IsPlain, Published.Id, Record.IsRun, Safe.position_at}
use Rattle.dnssec_network.specs.Guide.{HaveDsTogether, KeepKeyRules, both_from}
use Rattle.dnssec_network.specs.Models.{IsByTheClock, NoTtlBelow, prompt}
use Rattle.dnssec_network.specs.TwoSigners.{HasKey, IsNow, KeepsRules, Signer, SignsZone}

-- the signer with prompt servers
abbrev pub promptly : ℕ → ℕ → ℕ → ℕ → Signer → Signer
promptly first start ttl time s = record {
  name = s.name;
  calls = s.calls;
  entries = s.entries;
  network = prompt first start ttl time (length s.entries);
  public = s.public;
}

-- a plain run, made by the clock, with no report that is too short; it begins by this time
pub record IsPromptRun (first start ttl time : ℕ) (s : Signer) : Type 0 where
  pub run : IsRun s.name s.calls s.entries
  pub plain : IsPlain s.name s.calls s.entries
  pub within : first ≤ length s.entries
  pub clock : IsByTheClock first start s.entries
  pub low : NoTtlBelow first ttl s.entries
  pub begins : start ≤ time

-- the keeper's set at position p has each zone key of the signer's set at position q
abbrev pub HasZoneKeys : Signer → ℕ → Signer → ℕ → Type 0
HasZoneKeys keeper p signer q = (k : Id) → SignsZone signer k →
    Contains (position_at signer.entries q).dnskey k → HasKey keeper p signer k

-- Each set of the keeper has all zone keys that the signer's set has at the same time, and has
-- those with which the other of the two begins.
abbrev pub AlwaysHasKeys : Signer → Signer → Type 0
AlwaysHasKeys keeper signer = (t p q : ℕ) → keeper.network.start ≤ t → IsNow keeper t p →
    IsNow signer (max t (both_from keeper signer)) q → HasZoneKeys keeper p signer q

-- Then both keep the rules, whenever each begins.
abbrev pub PairsCanBeMet : Type 0
PairsCanBeMet = (first start its_first its_start ttl time : ℕ) (keeper signer : Signer) →
    ttl ≤ 4_294_967_295 →
    IsPromptRun first start ttl time keeper →
    IsPromptRun its_first its_start ttl time signer →
    AlwaysHasKeys (promptly first start ttl time keeper)
    (promptly its_first its_start ttl time signer) →
    KeepsRules (promptly first start ttl time keeper) time
    × KeepsRules (promptly its_first its_start ttl time signer) time
    × KeepKeyRules (promptly first start ttl time keeper)
    (promptly its_first its_start ttl time signer) time

-- One that joins, while each set of both has all zone keys of the other's sets.
abbrev pub JoiningCanBeMet : Type 0
JoiningCanBeMet = (first start its_first its_start ttl time : ℕ) (keeper signer : Signer) →
    ttl ≤ 4_294_967_295 →
    IsPromptRun first start ttl time keeper →
    IsPromptRun its_first its_start ttl time signer →
    ((p q : ℕ) → first ≤ p → its_first ≤ q → HasZoneKeys keeper p signer q) →
    ((p q : ℕ) → first ≤ p → its_first ≤ q → HasZoneKeys signer q keeper p) →
    KeepKeyRules (promptly first start ttl time keeper)
    (promptly its_first its_start ttl time signer) time
    × KeepKeyRules (promptly its_first its_start ttl time signer)
    (promptly first start ttl time keeper) time

-- Two in step: each makes as many calls, and after each call the set of the one has the zone keys
-- of the other's, and both or none have a DS.
abbrev pub SignersCanBeMet : Type 0
SignersCanBeMet = (first start ttl time : ℕ) (one other : Signer) →
    ttl ≤ 4_294_967_295 →
    IsPromptRun first start ttl time one →
    IsPromptRun first start ttl time other →
    length one.entries ≡ length other.entries →
    ((p : ℕ) → HasZoneKeys one p other p) →
    ((p : ℕ) → (((position_at one.entries p).ds ≡ []) × ((position_at other.entries p).ds ≡ []))
    ⊎ (((k : Id) × Contains (position_at one.entries p).ds k)
    × ((k : Id) × Contains (position_at other.entries p).ds k))) →
    KeepKeyRules (promptly first start ttl time one) (promptly first start ttl time other) time
    × HaveDsTogether (promptly first start ttl time one) (promptly first start ttl time other) time
