-- What a session knows of its calls so far, and what it says to the next.
use Rattle.std.specs.Prelude.{◌≡◌, ℕ, ◌+◌, List, [], ◌∷◌, ◌++◌, length, map, codes, string_bytes}
use Rattle.std.specs.Prelude.{Option, None, ◌≢◌, All, Bool, true, false}
use Rattle.dnssec_base.specs.declared.error.Error.TheVariants as no
use Rattle.dnssec_run.specs.declared.call.Call.{Call}
use Rattle.dnssec_run.specs.declared.record.Entry.{Entry}
use Rattle.dnssec_run.specs.declared.record.Reply.{Reply}
use Rattle.dnssec_run.specs.declared.record.Reply.TheVariants.{Refused}
use Rattle.dnssec_run.specs.{Changes.add_of, Moments.moments_of}
use Rattle.dnssec_run.specs.Record.{is_accepted}
use Rattle.dnssec_run.specs.Recorder.{Records}
use Rattle.dnssec_judge.specs.declared.verdict.Broken.{Broken}
use Rattle.dnssec_judge.specs.Judge.{Knows}
use Rattle.dnssec_judge.specs.Verdict.{IsVerdict}
use Rattle.dnssec_record.specs.Courses.{as_listed, ended_by, listed_by}
use Rattle.dnssec_record.specs.Output.{chain_line, reply_text, set_line}
use Rattle.dnssec_script.specs.Script.{AreScript, IsZoneLine, NamesZone, lines_of, says}
use Rattle.dnssec_record.specs.declared.fault.ScriptFault.{ScriptFault}
use Rattle.dnssec_record.specs.declared.fault.ScriptFault.TheVariants.{Malformed, Device}
use Rattle.dnssec_record.specs.declared.fault.ScriptFault.TheVariants.{OutOfMemory}
use Rattle.dnssec_record.specs.declared.session.Session.{Session}
use Rattle.dnssec_record.specs.declared.zone.ZoneState.{ZoneState}
use Rattle.dnssec_record.specs.declared.session.Response.{Response}
use Rattle.dnssec_record.specs.declared.session.Response.TheVariants as response
use Rattle.dnssec_record.specs.declared.session.Attempt.{Attempt}
use Rattle.dnssec_record.specs.declared.session.Attempt.TheVariants as attempt
use Rattle.dnssec_record.specs.declared.session.Trial.{Trial}
use Rattle.dnssec_record.specs.declared.session.Trial.TheVariants as trial

-- ---- calls

-- the entries are the record of a run of the calls on a new key set of this name, and a recorder
-- and a judge know them
pub record Follows (name : List ℕ) (calls : List Call) (entries : List Entry) (zone : ZoneState)
    : Type 0 where
  pub records : Records name calls entries zone.recorder
  pub knows : Knows add_of entries zone.judge

-- the session stands after the last of them
pub record StandsAfter (name : List ℕ) (calls : List Call) (entries : List Entry) (s : Session)
    : Type 0 where
  pub follows : Follows name calls entries s.zone
  pub listed : map as_listed s.zone.courses.listed.items ≡ listed_by calls entries
  pub ended : s.zone.courses.ended.items ≡ ended_by calls entries

-- one more call of the same run got this reply, and the session stands after it
pub record Advances (name : List ℕ) (calls : List Call) (entries : List Entry) (call : Call)
    (next : Session) (reply : Reply) : Type 0 where
  pub entry : Entry
  pub stands : StandsAfter name (calls ++ call ∷ []) (entries ++ entry ∷ []) next
  pub is_reply : entry.reply ≡ reply

-- ---- lines

-- the lines are a script, the entries are the record of a run of its calls, and the session stands
-- after the last of them
pub record Stands (lines : List (List ℕ)) (entries : List Entry) (s : Session) : Type 0 where
  pub name : List ℕ
  pub calls : List Call
  pub is_script : AreScript lines name calls
  pub stands : StandsAfter name calls entries s

-- no call was refused for lack of memory
abbrev pub HadMemory : List Entry → Type 0
HadMemory = All (λ entry. entry.reply ≢ Refused no.OutOfMemory)

-- the same for the lines of a script, and each of its calls had memory
pub record Resumes (script : List ℕ) (s : Session) : Type 0 where
  pub entries : List Entry
  pub stands : Stands (lines_of script) entries s
  pub had_memory : HadMemory entries

-- the same, and these are the moments of its calls
pub record ResumesWith (script : List ℕ) (s : Session) (kept : List ℕ) : Type 0 where
  pub resumes : Resumes script s
  pub moments : kept ≡ moments_of resumes.entries

-- one more line makes one more call of the same run, and the text is the answer to it
pub record GoesOn (lines : List (List ℕ)) (entries : List Entry) (line : List ℕ) (next : Session)
    (text : List ℕ) : Type 0 where
  pub entry : Entry
  pub stands : Stands (lines ++ line ∷ []) (entries ++ entry ∷ []) next
  pub is_answer : text ≡ reply_text entry.reply ++ codes "\n"

-- the same, and the call was accepted, or was refused
pub record Decides (accepted : Bool) (lines : List (List ℕ)) (entries : List Entry) (line : List ℕ)
    (next : Session) (text : List ℕ) : Type 0 where
  pub goes_on : GoesOn lines entries line next text
  pub is_decided : is_accepted goes_on.entry.reply ≡ accepted

-- it was accepted
abbrev pub Accepts : List (List ℕ) → List Entry → List ℕ → Session → List ℕ → Type 0
Accepts = Decides true

-- a session that makes the call of one more line refuses it, and the text is the answer
abbrev pub Refuses : List (List ℕ) → List Entry → List ℕ → List ℕ → Type 0
Refuses lines entries line text = (next : Session) × Decides false lines entries line next text

-- the fault of a first line: memory isn't missing if it names no zone
abbrev pub FaultOfZone : List ℕ → ScriptFault → Type 0
FaultOfZone line (Malformed n) = (n ≡ 1) × ((name : List ℕ) → ¬ IsZoneLine line name)
FaultOfZone line Device = ⊥
FaultOfZone line OutOfMemory = NamesZone line

-- what comes of a line: an answer, or nothing if it makes no call
abbrev pub Takes : Session → List ℕ → Session → Response → Type 0
Takes old line new (response.Answered text) =
    (lines : List (List ℕ)) (entries : List Entry) → Stands lines entries old →
    GoesOn lines entries line new (string_bytes text)
Takes old line new response.Malformed = (new ≡ old) × (says line ≡ None)

-- what comes of a line whose call is made only if it is accepted
abbrev pub Tries : Session → List ℕ → Session → Attempt → Type 0
Tries old line new (attempt.Accepted number text) =
    (lines : List (List ℕ)) (entries : List Entry) → Stands lines entries old →
    (number ≡ length entries + 1) × Accepts lines entries line new (string_bytes text)
Tries old line new (attempt.Refused text) = (new ≡ old) ×
    ((lines : List (List ℕ)) (entries : List Entry) → Stands lines entries old →
    Refuses lines entries line (string_bytes text))
Tries old line new attempt.Malformed = (new ≡ old) × (says line ≡ None)

-- what would come of it
abbrev pub IsTrial : Session → List ℕ → Trial → Type 0
IsTrial old line (trial.Accepted next text) =
    (lines : List (List ℕ)) (entries : List Entry) → Stands lines entries old →
    Accepts lines entries line next (string_bytes text)
IsTrial old line (trial.Refused text) =
    (lines : List (List ℕ)) (entries : List Entry) → Stands lines entries old →
    Refuses lines entries line (string_bytes text)
IsTrial old line trial.Malformed = says line ≡ None

-- ---- the end

-- the last two lines of the answers: the sets that are published after these entries, and the
-- verdict on them
pub record Closes (entries : List Entry) (text : List ℕ) : Type 0 where
  pub verdict : Option Broken
  pub is_verdict : IsVerdict entries verdict
  pub is_closing : text ≡ set_line entries ++ chain_line verdict
