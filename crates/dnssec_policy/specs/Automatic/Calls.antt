-- The calls of a zone, and what a policy has to know of them.
use Rattle.std.specs.Prelude.{◌≡◌, ℕ, ◌++◌, ◌∷◌, List, []}
use Rattle.dnssec_run.specs.declared.{call.Call.Call, record.Entry.Entry, record.Reply.Reply}
use Rattle.dnssec_run.specs.Moments.{moments_of}
use Rattle.dnssec_script.specs.{Inner.Statement.statement_says, Script.IsScript, Script.call_says}
use Rattle.dnssec_script.specs.declared.statement.Statement.{Statement}
use Rattle.dnssec_policy.specs.Laws.{AreLastsOf, IsFirstOf}
use Rattle.dnssec_record.specs.Session.{HadMemory, StandsAfter}
use Rattle.dnssec_policy.specs.declared.automatic.zone.Calls.{Calls}

-- the session stands after these calls, whose record is this; their last second waits are kept, and
-- the first call by hand
pub record IsAfter (name : List ℕ) (calls : List Call) (entries : List Entry) (kept : Calls)
    : Type 0 where
  pub stands : StandsAfter name calls entries kept.session
  pub lasts : AreLastsOf calls entries kept.last_waits
  pub first : IsFirstOf name calls entries kept.by_hand

-- one more call is made, and gets this reply
pub record GoesOn (name : List ℕ) (calls : List Call) (entries : List Entry) (call : Call)
    (next : Calls) (reply : Reply) : Type 0 where
  pub entry : Entry
  pub after : IsAfter name (calls ++ call ∷ []) (entries ++ entry ∷ []) next
  pub is_reply : entry.reply ≡ reply

-- the call of a statement is made
pub record Takes (statement : Statement) (old new : Calls) (reply : Reply) : Type 0 where
  pub call : Call
  pub is_call : call_says call ≡ statement_says statement
  pub goes_on : (name : List ℕ) (calls : List Call) (entries : List Entry) →
      IsAfter name calls entries old → GoesOn name calls entries call new reply

-- the calls are those of a script, each had memory, and these are their moments
pub record Resumes (script : List ℕ) (kept : Calls) (times : List ℕ) : Type 0 where
  pub name : List ℕ
  pub calls : List Call
  pub entries : List Entry
  pub is_script : IsScript script name calls
  pub after : IsAfter name calls entries kept
  pub had_memory : HadMemory entries
  pub moments : times ≡ moments_of entries
