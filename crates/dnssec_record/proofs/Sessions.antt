-- A session whose calls are handed in one by one.
use Rattle.std.proofs.Common.{◌≡◌, ℕ, List, [], ◌∷◌, ◌++◌, Option, Some, sym, ◌∙◌, ap}
use Rattle.std.proofs.Common.{Bool, IfSome, IsSome, is_some, subst}
use Rattle.std.specs.Option.{option_map}
use Rattle.std.specs.Prelude.{codes}
use Rattle.dnssec_run.specs.{Record.is_accepted}
use Rattle.dnssec_run.specs.declared.call.Call.{Call}
use Rattle.dnssec_run.specs.declared.record.{Entry.Entry, Reply.Reply}
use Rattle.dnssec_record.specs.Inner.Zone.{Comes, IsZoneAfter}
use Rattle.dnssec_record.specs.Output.{reply_text}
use Rattle.dnssec_record.specs.Session.{Advances, Decides, GoesOn, Stands}
use Rattle.dnssec_record.specs.declared.{session.Session.Session, zone.ZoneState.ZoneState}
use Rattle.dnssec_script.specs.Script.{AreScript, IsLineOf, IsZoneLine, NamesZone, call_says, says}
use Rattle.dnssec_script.proofs.Judging.{line_more}
use Rattle.dnssec_script.specs.Inner.Statement.{statement_says}
use Rattle.dnssec_script.specs.declared.statement.Statement.{Statement}

-- ---- calls

-- what a call of the zone came to, whatever the zone then gives back
pub advances : {name : List ℕ} {calls : List Call} {entries : List Entry} {call : Call}
    {made : ZoneState} (next : Session) {reply : Reply}
    → Comes IsZoneAfter name calls entries call made reply
    → ((name : List ℕ) (calls : List Call) (entries : List Entry)
    → IsZoneAfter name calls entries made → IsZoneAfter name calls entries next.zone)
    → Advances name calls entries call next reply
advances next came fits = record {
  entry = came.entry;
  stands = fits _ _ _ came.stands;
  is_reply = came.is_reply;
}

-- ---- lines

-- one more line makes one more call
pub script_more : (lines : List (List ℕ)) (name : List ℕ) (calls : List Call) (line : List ℕ)
    (call : Call) → AreScript lines name calls → IsLineOf line call
    → AreScript (lines ++ line ∷ []) name (calls ++ call ∷ [])
script_more [] name calls line call so is = absurd so
script_more (zone ∷ lines) name calls line call so is =
    (so.0, line_more lines calls line call so.1 is)

-- a line whose statement made a call of a session that stands after the same calls: the text is the
-- answer by its reply
pub record Answered (lines : List (List ℕ)) (entries : List Entry) (line : List ℕ) (next : Session)
    (reply : Reply) (text : List ℕ) : Type 0 where
  pub goes_on : GoesOn lines entries line next text
  pub is_reply : goes_on.entry.reply ≡ reply

pub answered : (lines : List (List ℕ)) (entries : List Entry) (line : List ℕ) {s : Session}
    (next : Session) {reply : Reply} (statement : Statement) (text : List ℕ)
    → (so : Stands lines entries s) → says line ≡ Some (statement_says statement) → (call : Call)
    → call_says call ≡ statement_says statement
    → Advances so.name so.calls entries call next reply
    → text ≡ reply_text reply ++ codes "\n" → Answered lines entries line next reply text
answered lines entries line next statement text so said call is_call after is = record {
  goes_on = record {
    entry = after.entry;
    stands = record {
      name = so.name;
      calls = so.calls ++ call ∷ [];
      is_script = script_more lines so.name so.calls line call so.is_script
          (said ∙ ap Some (sym is_call));
      stands = after.stands;
    };
    is_answer = is ∙ ap (λ (r : Reply). reply_text r ++ codes "\n") (sym after.is_reply);
  };
  is_reply = after.is_reply;
}

-- so the call was accepted or refused, as its reply says
pub decides : {accepted : Bool} {lines : List (List ℕ)} {entries : List Entry} {line : List ℕ}
    {next : Session} {reply : Reply} {text : List ℕ}
    → Answered lines entries line next reply text → is_accepted reply ≡ accepted
    → Decides accepted lines entries line next text
decides here so = record {
  goes_on = here.goes_on;
  is_decided = ap is_accepted here.is_reply ∙ so;
}

-- a line whose zone was read names one
pub names : (line : List ℕ) (found : Option (List ℕ)) (name : List ℕ)
    → IfSome found (IsZoneLine line) → found ≡ Some name → NamesZone line
names line found name zone is = (name, subst (λ o. IfSome o (IsZoneLine line)) is zone)

-- a line that was read says something
pub speaks : (line : List ℕ) (found : Option Statement) (statement : Statement)
    → option_map statement_says found ≡ says line → found ≡ Some statement → IsSome (says line)
speaks line found statement said is =
    ap is_some (sym said ∙ ap (option_map statement_says) is)
