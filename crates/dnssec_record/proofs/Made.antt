-- A loop that reads the lines of a script one by one, and makes their calls.
use Rattle.std.proofs.Common.{◌≡◌, ℕ, List, [], ◌∷◌, ◌++◌, Option, Some, None, subst}
use Rattle.std.proofs.Common.{Result, IfErr, IfOk}
use Rattle.std.specs.Prelude.{IsErrAnd}
use Rattle.std.proofs.lemmas.Result.{IfOk-weaker, err_from_is_err_and}
use Rattle.dnssec_run.specs.declared.{call.Call.Call, record.Entry.Entry, record.Reply.Reply}
use Rattle.dnssec_script.specs.Inner.{Reading.HasRead, Reading.IsReadFault, Reading.ReadsOn}
use Rattle.dnssec_script.specs.Inner.Statement.{statement_says}
use Rattle.dnssec_script.specs.Script.{IsScript, call_says}
use Rattle.dnssec_script.proofs.Judging.{begins}
use Rattle.dnssec_script.specs.declared.{lines.Lines.Lines, lines.ReadFault.ReadFault}
use Rattle.dnssec_script.specs.declared.statement.Statement.{Statement}
use Rattle.dnssec_record.specs.{Answer.AnswerFault, Fault.fault_of_reading}
use Rattle.dnssec_record.specs.declared.fault.ScriptFault.{ScriptFault, TheVariants.OutOfMemory}
use Rattle.dnssec_record.specs.Inner.Zone.{Comes, Known, TakesOn}
use Rattle.dnssec_record.specs.declared.{zone.ZoneState.ZoneState}
use Rattle.dnssec_record.proofs.Answering.{answer_fault}

-- these are left of the lines of a script, and this holds of the calls of the others and of their
-- entries
pub record HasMade (script : List ℕ) (left : Lines)
    (P : List ℕ → List Call → List Entry → Type 0) : Type 0 where
  pub name : List ℕ
  pub calls : List Call
  pub read : HasRead script name calls left
  pub entries : List Entry
  pub so : P name calls entries

-- what is found next in a script whose lines are read so far
abbrev pub Finds : Lines → Lines → Option Statement → Type 0
Finds old new found =
    (script name : List ℕ) (calls : List Call) → HasRead script name calls old →
    ReadsOn script name calls new found

-- no call yet: the first line names the zone
pub none_made : (P : List ℕ → List Call → List Entry → Type 0) {script : List ℕ} {left : Lines}
    (name : List ℕ) → HasRead script name [] left → P name [] [] → HasMade script left P
none_made P name read so = record {
  name = name;
  calls = [];
  read = read;
  entries = [];
  so = so;
}

-- the call of one more line
pub one_made : (P Q : List ℕ → List Call → List Entry → Type 0) {script : List ℕ}
    {old : Lines} {new : Lines} {found : Option Statement} {s : Statement}
    (h : HasMade script old P) (call : Call) (grown : List Entry) → Finds old new found
    → found ≡ Some s → call_says call ≡ statement_says s → Q h.name (h.calls ++ call ∷ []) grown
    → HasMade script new Q
one_made P Q {script = script} {new = new} h call grown next some is so = record {
  name = h.name;
  calls = h.calls ++ call ∷ [];
  read = subst (ReadsOn script h.name h.calls new) some (next script h.name h.calls h.read) call is;
  entries = grown;
  so = so;
}

-- the calls of all lines
pub all_made : (P : List ℕ → List Call → List Entry → Type 0) {script : List ℕ} {old : Lines}
    (new : Lines) {found : Option Statement} (h : HasMade script old P) → Finds old new found
    → found ≡ None → IsScript script h.name h.calls
all_made P {script = script} new h next none =
    subst (ReadsOn script h.name h.calls new) none (next script h.name h.calls h.read)

-- the fault of the next line is one of the script
pub fault_made : (P : List ℕ → List Call → List Entry → Type 0) {T : Type 0} {script : List ℕ}
    {old : Lines} (fault : ReadFault) (h : HasMade script old P) (r : Result T ScriptFault)
    → IsErrAnd r (λ e. e ≡ fault_of_reading fault)
    → ((s name : List ℕ) (calls : List Call) → HasRead s name calls old → IsReadFault s fault)
    → IfErr r (AnswerFault script)
fault_made P {script = script} fault h r gives next =
    let p = err_from_is_err_and r gives in
    rw (p.1, p.2) (answer_fault script fault (next script h.name h.calls h.read))

-- and so is memory that runs out, since the first line names a zone
pub memory_made : {P : List ℕ → List Call → List Entry → Type 0} {T : Type 0} {script : List ℕ}
    {left : Lines} → HasMade script left P → (r : Result T ScriptFault)
    → IsErrAnd r (λ e. e ≡ OutOfMemory) → IfErr r (AnswerFault script)
memory_made h r gives = let p = err_from_is_err_and r gives in rw (p.1, p.2) (begins h.read)

-- ---- the call of a statement

-- if this is the statement's call, what came of it came of the statement
pub takes_on : {E : Type 0} (After : Known) (old next : ZoneState) (statement : Statement)
    (call : Call) → call_says call ≡ statement_says statement → (r : Result Reply E)
    → IfOk r (λ reply. (name : List ℕ) (calls : List Call) (entries : List Entry)
    → After name calls entries old → Comes After name calls entries call next reply)
    → IfOk r (TakesOn After statement old next)
takes_on After old next statement call is r comes = IfOk-weaker r _ _
    (λ reply so. record { call = call; is_call = is; comes = so }) comes
