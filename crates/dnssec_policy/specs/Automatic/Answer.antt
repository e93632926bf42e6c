-- What to do next, by texts.
use Rattle.std.specs.Prelude.{◌≡◌, ℕ, ◌*◌, List, length, None, Ok}
use Rattle.dnssec_run.specs.declared.{call.Call.Call, record.Entry.Entry}
use Rattle.dnssec_run.specs.{Moments.moments_of, Record.IsRun}
use Rattle.dnssec_network.specs.{declared.fact.Fact.Fact, Facts.Before, Facts.AreTrue}
use Rattle.dnssec_network.specs.Network.{Network}
use Rattle.dnssec_script.specs.Script.{IsScript, lines_of}
use Rattle.dnssec_record.specs.Session.{HadMemory}
use Rattle.dnssec_network.specs.Text.Reading.{AreNotes}
use Rattle.dnssec_policy.specs.{declared.policy.Policy.Policy, Automatic.IsViewAt}
use Rattle.dnssec_policy.specs.{ByHand.first_by_hand, Next.answer_of, Todo.Todo, View.View}
use Rattle.dnssec_policy.specs.Text.{Lint.highest_of, Lint.too_short, Reading.policy_of}
use Rattle.dnssec_policy.specs.Automatic.{Lines.todo_line, Zone.Says}
use Rattle.dnssec_policy.specs.declared.automatic.zone.AutomaticZone.{AutomaticZone}

-- the line says what the policy says to do at this second, by the calls so far and the notes
pub record SaysLine (name : List ℕ) (calls : List Call) (entries : List Entry) (policy : Policy)
    (seconds : ℕ) (zone : AutomaticZone) (line : List ℕ) : Type 0 where
  pub todo : Todo
  pub says : Says name calls entries policy (seconds * 1_000_000_000) zone todo
  pub is_line : line ≡ todo_line policy.algorithm todo seconds

-- The line says what the policy says to do at this second, by a run of the script, each of whose
-- calls had memory, and by the notes. No lifetime is shorter than its roll takes.
pub record AnswersBy (policy : Policy) (script notes : List ℕ) (seconds : ℕ) (line : List ℕ)
    : Type 0 where
  pub name : List ℕ
  pub calls : List Call
  pub entries : List Entry
  pub is_script : IsScript script name calls
  pub is_run : IsRun name calls entries
  pub had_memory : HadMemory entries
  pub before : Before
  pub facts : List Fact
  pub are_notes : AreNotes (moments_of entries) (lines_of notes) before facts
  pub long_enough : too_short policy policy.scheme (highest_of before facts) ≡ None
  pub view : View
  pub sees : (network : Network) (time : ℕ) → AreTrue before facts network time →
      IsViewAt name calls entries network time (length entries) view
  pub now : view.now ≡ seconds * 1_000_000_000
  pub is_line : line ≡ todo_line policy.algorithm
      (answer_of policy (first_by_hand name calls entries (length entries)) view) seconds

-- so does the policy of a text
pub record AnswersNext (text script notes : List ℕ) (seconds : ℕ) (line : List ℕ) : Type 0 where
  pub policy : Policy
  pub is_policy : policy_of (lines_of text) ≡ Ok policy
  pub answers : AnswersBy policy script notes seconds line
