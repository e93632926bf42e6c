-- What the code keeps and answers, in the words of the definitions.
use denote.Ref.{Bor}
use Rattle.std.specs.Prelude.{◌≡◌, ℕ, Bool, false, List, map, Option, None, Some, get_or}
use Rattle.std.specs.Prelude.{if◌then◌else◌, Result, Ok, Err}
use Rattle.std.specs.{FinMap.entries, Global.Global}
use Rattle.std.specs.declared.{string.String.String, vec.Vec.Vec}
use Rattle.dnssec_keyset.specs.KeySet.{KeySetParts}
use Rattle.dnssec_policy.specs.declared.policy.KeyRole.{KeyRole}
use Rattle.dnssec_key.specs.{declared.roll.RollType.RollType, Key.KeyParts}
use Rattle.dnssec_zone.specs.{Rolls.roll_number, Rolls.same_roll, Start.texts}
use Rattle.dnssec_keyset.specs.Step as keyset
use Rattle.dnssec_keyset.specs.declared.wait.WaitEnd.{WaitEnd}
use Rattle.dnssec_run.specs.declared.call.Call.{Call, TheVariants.CacheExpired2}
use Rattle.dnssec_run.specs.{declared.record.Reply.Reply, InOrder.entry_of, Record.is_accepted}
use Rattle.dnssec_run.specs.Steps.{step_of}
use Rattle.dnssec_policy.specs.declared.{last_waits.LastWaits.LastWaits, keys.Pick.Pick}
use Rattle.dnssec_policy.specs.declared.keys.Pick.TheVariants.{Old, New}
use Rattle.dnssec_policy.specs.declared.{state.Ends.Ends, state.State.State, todo.Next.Next}
use Rattle.dnssec_policy.specs.{Keys.goes, Keys.is_new, Ttls.ttl_in}
use Rattle.dnssec_policy.specs.Todo.{Make, NeedKey, NotBefore, Publish, Rest, Stuck, Todo, Watch}
use Rattle.dnssec_policy.specs.View.{View}
use Rattle.dnssec_policy.specs.declared.todo.Next.TheVariants as code

-- ---- last second waits

abbrev pub last_of : LastWaits → RollType → Option ℕ
last_of waits roll = get_or waits.by_roll (roll_number roll) None

-- the roll whose second wait a call ends, if any
abbrev pub second_wait_of : Call → Option RollType
second_wait_of (CacheExpired2 roll now) = Some roll
second_wait_of _ = None

-- only if it is accepted
abbrev pub accepted_wait : Reply → Option RollType → Option RollType
accepted_wait reply wait = if is_accepted reply then wait else None

abbrev pub is_wait_of : RollType → Option RollType → Bool
is_wait_of roll None = false
is_wait_of roll (Some other) = same_roll roll other

-- ---- the state

abbrev pub end_of : Ends → RollType → Option WaitEnd
end_of ends roll = get_or ends.by_roll (roll_number roll) None

abbrev pub view_of : State → (RollType → Option WaitEnd) → View
view_of s end = record {
  set = s.keyset.now;
  step = step_of s.steps;
  last = last_of s.last_waits;
  end = end;
  highest = ttl_in s.highest;
  before = s.notes.now.before;
  facts = s.notes.now.facts;
  now = s.moment;
}

-- ---- keys

-- these are the keys of the set, in their order
abbrev pub AreKeysOf : {Y : Type 0} → KeySetParts → List (Bor (String Y) × Bor KeyParts) → Type 0
AreKeysOf set keys = entries set.keys ≡ map entry_of keys

-- a value is that of what is known by a state and the keys of its set, whenever waits are over
abbrev pub OfView : {Y A : Type 0} → State → List (Bor (String Y) × Bor KeyParts) → (View → A) → A
    → Type 0
OfView state keys what value = (end : RollType → Option WaitEnd) →
    AreKeysOf state.keyset.now keys → value ≡ what (view_of state end)

-- new keys, or the role of one that is missing
abbrev pub news_of : Result (Vec (Bor (List ℕ)) Global) KeyRole → Result (List (List ℕ)) KeyRole
news_of (Ok found) = Ok (texts found.items)
news_of (Err role) = Err role

abbrev pub passes : Pick → KeyParts → Bool
passes (Old roll) k = goes roll k
passes (New policy role) k = is_new policy role k

-- ---- what to do next

-- as the definitions say it, at the moment at which it is said
abbrev pub todo_of : ℕ → Next → Todo
todo_of now (code.Report roll half ttl) = Make (keyset.Report roll half ttl now)
todo_of now (code.Wait roll half) = Make (keyset.Wait roll half now)
todo_of now (code.Done roll) = Make (keyset.RollDone roll)
todo_of now (code.Start roll old new) =
    Make (keyset.StartRoll roll (texts old.items) (texts new.items) now)
todo_of now (code.Delete reference) = Make (keyset.DeleteKey reference.now)
todo_of now (code.Publish kind) = Publish kind
todo_of now (code.NeedKey role) = NeedKey role
todo_of now (code.Watch kind) = Watch kind
todo_of now (code.NotBefore moment) = NotBefore moment
todo_of now (code.Stuck why) = Stuck why
todo_of now code.Rest = Rest
