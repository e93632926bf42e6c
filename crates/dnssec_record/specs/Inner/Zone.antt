-- What a zone is after calls, and what one more of them comes to.
use Rattle.std.specs.Prelude.{◌≡◌, ℕ, List, [], ◌∷◌, ◌++◌}
use Rattle.dnssec_run.specs.declared.call.Call.{Call}
use Rattle.dnssec_run.specs.declared.record.Entry.{Entry}
use Rattle.dnssec_run.specs.declared.record.Reply.{Reply}
use Rattle.dnssec_script.specs.Script.{call_says}
use Rattle.dnssec_script.specs.Inner.Statement.{statement_says}
use Rattle.dnssec_script.specs.declared.statement.Statement.{Statement}
use Rattle.dnssec_record.specs.Session.{StandsAfter}
use Rattle.dnssec_record.specs.declared.zone.ZoneState.{ZoneState}

-- a session of this zone stands after these entries
abbrev pub IsZoneAfter : List ℕ → List Call → List Entry → ZoneState → Type 0
IsZoneAfter name calls entries zone =
    StandsAfter name calls entries (record { zone = zone })

-- what is known of a zone after calls
abbrev pub Known : Type 1
Known = List ℕ → List Call → List Entry → ZoneState → Type 0

-- one more call of the same run got this reply, and as much is known of the zone as before
pub record Comes (After : Known) (name : List ℕ) (calls : List Call) (entries : List Entry)
    (call : Call) (next : ZoneState) (reply : Reply) : Type 0 where
  pub entry : Entry
  pub stands : After name (calls ++ call ∷ []) (entries ++ entry ∷ []) next
  pub is_reply : entry.reply ≡ reply

-- the call of this statement was made, and got this reply
pub record TakesOn (After : Known) (statement : Statement)
    (old next : ZoneState) (reply : Reply) : Type 0 where
  pub call : Call
  pub is_call : call_says call ≡ statement_says statement
  pub comes : (name : List ℕ) (calls : List Call) (entries : List Entry) →
      After name calls entries old → Comes After name calls entries call next reply
