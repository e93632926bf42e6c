-- A zone that rolls by itself: what it keeps of its calls, and that they were said.
use Rattle.std.specs.Prelude.{◌≡◌, ◌≢◌, ℕ, suc, ◌<◌, ◌≤◌, ◌++◌, ◌∷◌, List, [], get_or, length}
use Rattle.std.specs.Prelude.{Option, None, Some}
use Rattle.dnssec_keyset.specs.Step as keyset
use Rattle.dnssec_run.specs.declared.{call.Call.Call, record.Entry.Entry, record.Reply.Reply}
use Rattle.dnssec_run.specs.{Moments.moments_of, Record.call_of}
use Rattle.dnssec_network.specs.{ByAlgorithm.FindChainByEach, Facts.AreTrue}
use Rattle.dnssec_network.specs.Network.{FindChain, IsNetworkOf, Network}
use Rattle.dnssec_network.specs.Reports.{NoneGoesBack}
use Rattle.dnssec_script.specs.Script.{lines_of}
use Rattle.dnssec_network.specs.Text.Reading.{AreNotes}
use Rattle.dnssec_policy.specs.declared.policy.Policy.{Policy}
use Rattle.dnssec_policy.specs.{Automatic.IsAutomatic, Automatic.IsViewAt, ByHand.first_by_hand}
use Rattle.dnssec_policy.specs.{Next.answer_of, Todo.Make, Todo.Todo, View.View}
use Rattle.dnssec_policy.specs.Automatic.Calls.{GoesOn, IsAfter, Resumes}
use Rattle.dnssec_policy.specs.Automatic.ZoneNotes.{HasHighest}
use Rattle.dnssec_policy.specs.declared.automatic.zone.AutomaticZone.{AutomaticZone}
use Rattle.dnssec_policy.specs.declared.automatic.zone.Advance.{Advance}

-- ---- what holds of it

-- no call was made before the moment that was said with it
abbrev pub IsInTime : List ℕ → Network → Type 0
IsInTime asked network = (n : ℕ) → n < length asked → get_or asked n 0 ≤ network.made (suc n)

-- The zone stands after these calls, whose record is this. If its notes are true, and no call was
-- made before the moment that was said with it, the calls are automatic.
pub record IsAutomaticAfter (name : List ℕ) (calls : List Call) (entries : List Entry)
    (asked : List ℕ) (zone : AutomaticZone) : Type 0 where
  pub after : IsAfter name calls entries zone.calls
  pub moments : zone.moments ≡ moments_of entries
  pub highest : HasHighest zone.noted
  pub count : length asked ≡ length entries
  pub automatic : (network : Network) (time : ℕ) →
      AreTrue zone.noted.notes.before zone.noted.notes.facts network time →
      IsInTime asked network → IsAutomatic name calls entries network time

-- ---- what is said

-- the policy says so at a moment, by the calls so far and the notes
pub record Says (name : List ℕ) (calls : List Call) (entries : List Entry) (policy : Policy)
    (moment : ℕ) (zone : AutomaticZone) (todo : Todo) : Type 0 where
  pub view : View
  pub sees : (network : Network) (time : ℕ) →
      AreTrue zone.noted.notes.before zone.noted.notes.facts network time →
      IsViewAt name calls entries network time (length entries) view
  pub now : view.now ≡ moment
  pub said : answer_of policy (first_by_hand name calls entries (length entries)) view ≡ todo

-- it says no call
abbrev pub SaysNone : List ℕ → List Call → List Entry → Policy → ℕ → AutomaticZone → Type 0
SaysNone name calls entries policy moment zone = (todo : Todo)
    × Says name calls entries policy moment zone todo × ((call : keyset.Call) → todo ≢ Make call)

-- ---- what is made

-- what the call leaves that is said
abbrev pub Makes : List ℕ → List Call → List Entry → Policy → ℕ → AutomaticZone → Option Advance
    → Type 0
Makes name calls entries policy moment zone None =
    SaysNone name calls entries policy moment zone
Makes name calls entries policy moment zone (Some made) = (call : Call)
    × Says name calls entries policy moment zone (Make (call_of call))
    × GoesOn name calls entries call made.calls made.reply

-- one more call is made, with this moment, and gets this reply; the notes stay as they are
pub record IsMade (name : List ℕ) (calls : List Call) (entries : List Entry) (asked : List ℕ)
    (call : Call) (moment : ℕ) (old new : AutomaticZone) (reply : Reply) : Type 0 where
  pub entry : Entry
  pub after : IsAutomaticAfter name (calls ++ call ∷ []) (entries ++ entry ∷ [])
      (asked ++ moment ∷ []) new
  pub is_reply : entry.reply ≡ reply
  pub noted : new.noted ≡ old.noted

-- an add is asked for by no policy, so at no moment
abbrev pub Adds : List ℕ → List Call → List Entry → List ℕ → Call → AutomaticZone → AutomaticZone
    → Reply → Type 0
Adds name calls entries asked call old new reply =
    IsMade name calls entries asked call 0 old new reply

-- no call is said, and none is made; or exactly the call is made that is said
abbrev pub Advances : List ℕ → List Call → List Entry → List ℕ → Policy → ℕ → AutomaticZone
    → AutomaticZone → Option Reply → Type 0
Advances name calls entries asked policy moment old new None =
    (new ≡ old) × SaysNone name calls entries policy moment old
Advances name calls entries asked policy moment old new (Some reply) = (call : Call)
    × Says name calls entries policy moment old (Make (call_of call))
    × IsMade name calls entries asked call moment old new reply

-- ---- after a restart

-- the calls are those of the script, and the notes are these
pub record ResumesZone (script notes : List ℕ) (zone : AutomaticZone) : Type 0 where
  pub resumes : Resumes script zone.calls zone.moments
  pub are_notes : AreNotes (moments_of resumes.entries) (lines_of notes) zone.noted.notes.before
      zone.noted.notes.facts
  pub highest : HasHighest zone.noted
  -- If a zone stood after these calls with these notes, and its calls were automatic, so they are.
  pub automatic : (asked : List ℕ) (old : AutomaticZone) →
      IsAutomaticAfter resumes.name resumes.calls resumes.entries asked old →
      zone.noted.notes ≡ old.noted.notes →
      IsAutomaticAfter resumes.name resumes.calls resumes.entries asked zone

-- ---- what resolvers find

-- a chain of trust at every time, by each algorithm too
abbrev pub ReachesResolvers : AutomaticZone → Type 0
ReachesResolvers zone =
    (name : List ℕ) (calls : List Call) (entries : List Entry) (asked : List ℕ)
    (network : Network) (time : ℕ) →
    IsAutomaticAfter name calls entries asked zone →
    AreTrue zone.noted.notes.before zone.noted.notes.facts network time →
    IsInTime asked network →
    IsNetworkOf entries network time → NoneGoesBack entries network time →
    FindChain entries network time × FindChainByEach calls entries network time
