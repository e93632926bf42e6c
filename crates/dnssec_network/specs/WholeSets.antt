-- A list that keeps sets whole: the premises of a chain by each algorithm are not asked in vain.
use Rattle.std.specs.Prelude.{◌≡◌, ℕ, ◌≤◌, List, length}
use Rattle.std.specs.{List.Contains, Global.Global}
use Rattle.dnssec_run.specs.declared.{call.Call.Call, record.Entry.Entry}
use Rattle.dnssec_run.specs.ByAlgorithm.{KeepsWhole, algorithm_of}
use Rattle.dnssec_run.specs.{Plain.IsPlain, Published.Id, Record.IsRun, Safe.position_at}
use Rattle.dnssec_network.specs.Models.{MeetsPremises, prompt}

-- at some position the DS set has a key of this algorithm, and all its keys have it
pub record HasDsBy (calls : List Call) (entries : List Entry) (algorithm : ℕ) : Type 0 where
  pub at : ℕ
  pub key : Id
  pub within : at ≤ length entries
  pub is_in : Contains (position_at entries at).ds key
  pub all : (k : Id) → Contains (position_at entries at).ds k →
      algorithm_of calls k ≡ algorithm

-- Whatever the zone and the two algorithms, some plain list keeps sets whole, and brings the zone
-- from DS records of the one to DS records of the other. With one call each second and a TTL of a
-- second it has a network that meets all premises at every time.
abbrev pub WholeSetsCanBeKept : Type 0
WholeSetsCanBeKept = (heap : Global) (name : List ℕ) (one other time : ℕ) →
    (calls : List Call) × (entries : List Entry)
    × IsRun name calls entries × IsPlain name calls entries × KeepsWhole name calls entries
    × HasDsBy calls entries one × HasDsBy calls entries other
    × MeetsPremises entries (prompt 0 0 1 time (length entries)) time
