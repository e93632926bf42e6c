-- A line that says a call makes that call, if it is written after the lines of its script.
use Rattle.std.specs.Prelude.{◌≡◌, ℕ, ◌*◌, ◌≤◌, ◌++◌, ◌∷◌, List, [], Some, Option, length, true}
use Rattle.std.specs.FinMap.{get}
use Rattle.dnssec_key.specs.Key.{KeyParts}
use Rattle.dnssec_keyset.specs.KeySet.{KeySetParts}
use Rattle.dnssec_run.specs.declared.{call.Call.Call, record.Entry.Entry}
use Rattle.dnssec_run.specs.Record.{IsRun, call_of, world_at}
use Rattle.dnssec_script.specs.Script.{AreScript, IsLineOf, IsScript, is_reference, lines_of}
use Rattle.dnssec_network.specs.{Facts.AreTrue, Network.Network}
use Rattle.dnssec_policy.specs.{declared.policy.Policy.Policy, ByHand.first_by_hand, Next.answer_of}
use Rattle.dnssec_policy.specs.{Todo.Make, View.View}
use Rattle.dnssec_policy.specs.Automatic.{Answer.AnswersBy, Lines.todo_line}

-- a script can name each key of the set
abbrev pub CanNameKeys : KeySetParts → Type 0
CanNameKeys set = (q : List ℕ) (k : KeyParts) → get set.keys q ≡ Some k → is_reference q ≡ true

-- after calls of a script it can
abbrev pub ScriptsNameKeys : Type 0
ScriptsNameKeys =
    (script name : List ℕ) (calls : List Call) (entries : List Entry) (n : ℕ) →
    IsScript script name calls → IsRun name calls entries → n ≤ length entries →
    CanNameKeys (world_at name calls entries n).set

-- the line of a call that is said at a second of 64 bits is read as that call
abbrev pub SaidLinesAreRead : Type 0
SaidLinesAreRead =
    (policy : Policy) (by_hand : Option ℕ) (view : View) (call : Call) (seconds : ℕ) →
    view.now ≡ seconds * 1_000_000_000 → seconds ≤ 18446744073709551615 →
    CanNameKeys view.set → answer_of policy by_hand view ≡ Make (call_of call) →
    IsLineOf (todo_line policy.algorithm (Make (call_of call)) seconds) call

-- If an answer to a script says a call, and its notes are true, the lines of the script and that
-- line are a script: it makes the calls so far, and then that call.
abbrev pub AnswersGoOn : Type 0
AnswersGoOn =
    (policy : Policy) (script notes : List ℕ) (seconds : ℕ) (line : List ℕ)
    (a : AnswersBy policy script notes seconds line) (network : Network) (time : ℕ) (call : Call) →
    seconds ≤ 18446744073709551615 → AreTrue a.before a.facts network time →
    answer_of policy (first_by_hand a.name a.calls a.entries (length a.entries)) a.view
    ≡ Make (call_of call) →
    AreScript (lines_of script ++ line ∷ []) a.name (a.calls ++ call ∷ [])
