-- The status of a zone, as one object of JSON on one line: what an operator, a dashboard or a
-- script asks besides the answer to a call.
use Rattle.std.specs.Prelude.{◌≡◌, ℕ, List, ◌++◌, Option, codes, length}
use Rattle.std.specs.FinMap as map
use Rattle.dnssec_base.specs.NameText.{name_text}
use Rattle.dnssec_key.specs.declared.roll.RollType.{RollType}
use Rattle.dnssec_zone.specs.Keys.{Keys}
use Rattle.dnssec_keyset.specs.KeySet.{KeySetParts}
use Rattle.dnssec_run.specs.declared.call.Call.{Call}
use Rattle.dnssec_run.specs.declared.record.Entry.{Entry}
use Rattle.dnssec_run.specs.declared.record.Published.{Published}
use Rattle.dnssec_run.specs.Published.{IsPublished, World}
use Rattle.dnssec_run.specs.Record.{world_at}
use Rattle.dnssec_judge.specs.declared.verdict.Broken.{Broken}
use Rattle.dnssec_judge.specs.Verdict.{IsVerdict}
use Rattle.dnssec_record.specs.Courses.{Listing, ended_by, listed_by}
use Rattle.dnssec_status.specs.Json.{array_json, text_json}
use Rattle.dnssec_status.specs.Keys.{key_json}
use Rattle.dnssec_status.specs.Rolls.{AreGoing, ended_json, going_json}
use Rattle.dnssec_status.specs.Sets.{chain_json, sets_json}
use Rattle.dnssec_status.specs.declared.rolls.RollInProgress.{RollInProgress}

-- the zone, the verdict, and what is published
unfoldable pub zone_json : List ℕ → Option Broken → Published → List ℕ
zone_json name verdict sets =
    codes "{\"zone\":" ++ text_json (name_text name) ++ codes ",\"chain\":" ++ chain_json verdict
    ++ codes ",\"published\":" ++ sets_json sets

-- the keys, in the order of their references' bytes, and the rolls
unfoldable pub state_json : List Listing → Keys → List RollInProgress → List RollType → List ℕ
state_json listed keys rolls ended =
    codes ",\"keys\":" ++ array_json (key_json listed) (map.entries keys)
    ++ codes ",\"rolls\":" ++ array_json going_json rolls
    ++ codes ",\"ended\":" ++ array_json ended_json ended ++ codes "}\n"

-- the whole
unfoldable pub status_text : KeySetParts → Option Broken → Published → List Listing
    → List RollInProgress → List RollType → List ℕ
status_text set verdict sets listed rolls ended =
    zone_json set.name verdict sets ++ state_json listed set.keys rolls ended

-- the text is the status after these calls, whose record these entries are
pub record IsStatus (name : List ℕ) (calls : List Call) (entries : List Entry) (text : List ℕ)
    : Type 0 where
  pub world : World
  pub is_world : world ≡ world_at name calls entries (length calls)
  pub verdict : Option Broken
  pub is_verdict : IsVerdict entries verdict
  pub sets : Published
  pub are_published : IsPublished sets world
  pub rolls : List RollInProgress
  pub are_rolls : AreGoing world.set rolls
  pub is_text : text ≡ status_text world.set verdict sets (listed_by calls entries) rolls
      (ended_by calls entries)
