-- Calls that a zone makes by itself.
pub mod Calls
pub mod ZoneNotes
pub mod Zone
pub mod Lines
pub mod Answer
pub mod Said
pub mod Asking
pub mod Faults
use Rattle.std.specs.Prelude.{◌≡◌, ◌⊎◌, ℕ, zero, suc, ◌≤◌, ◌&&◌, Bool, true, false, List, slice_get}
use Rattle.std.specs.Prelude.{Option, None, Some, if◌then◌else◌}
use Rattle.dnssec_key.specs.declared.roll.RollType.{RollType}
use Rattle.dnssec_zone.specs.Rolls.{same_roll}
use Rattle.dnssec_keyset.specs.WaitEnd.{SaysEnd}
use Rattle.dnssec_run.specs.declared.call.Call.{Call}
use Rattle.dnssec_run.specs.declared.call.Call.TheVariants.{AddKeyKsk, AddKeyZsk, AddKeyCsk}
use Rattle.dnssec_run.specs.declared.call.Call.TheVariants.{AddPublicKey, CacheExpired2}
use Rattle.dnssec_run.specs.declared.record.Entry.{Entry}
use Rattle.dnssec_run.specs.Record.{call_of, is_accepted, world_at}
use Rattle.dnssec_run.specs.{Safe.SetKind, Steps.last_step}
use Rattle.dnssec_network.specs.{Facts.AreTrue, Network.Network}
use Rattle.dnssec_policy.specs.{declared.policy.Policy.Policy, Next.task_of, Todo.Make}
use Rattle.dnssec_policy.specs.{Ttls.highest_of, View.View}

-- ---- the last second wait of a roll

-- the call is an accepted second wait of the roll
abbrev pub is_last : RollType → Option Call → Option Entry → Bool
is_last roll (Some (CacheExpired2 other now)) (Some entry) =
    same_roll roll other && is_accepted entry.reply
is_last roll _ _ = false

-- its position among the first n calls
unfoldable pub last_below : List Call → List Entry → RollType → ℕ → Option ℕ
last_below calls entries roll zero = None
last_below calls entries roll (suc n) =
    if is_last roll (slice_get calls n) (slice_get entries n) then Some (suc n)
    else last_below calls entries roll n

-- ---- what is said after n calls

-- it is known of the record after n calls, and up to a time the facts are true of the network
pub record IsViewAt (name : List ℕ) (calls : List Call) (entries : List Entry) (network : Network)
    (time n : ℕ) (v : View) : Type 0 where
  pub set : v.set ≡ (world_at name calls entries n).set
  pub step : (roll : RollType) → v.step roll ≡ last_step entries roll (suc n)
  pub last : (roll : RollType) → v.last roll ≡ last_below calls entries roll n
  pub end : (roll : RollType) → SaysEnd roll v.set (v.end roll)
  pub highest : (kind : SetKind) → v.highest kind ≡ highest_of v.before v.facts kind
  pub are_true : AreTrue v.before v.facts network time

-- the call after position n is what some policy said to do next, at a moment that the clock had
-- reached when the call was made. (A call is said before any cause for which nothing is done.)
pub record IsSaid (name : List ℕ) (calls : List Call) (entries : List Entry) (network : Network)
    (time n : ℕ) (call : Call) : Type 0 where
  pub policy : Policy
  pub view : View
  pub at : IsViewAt name calls entries network time n view
  pub clock : view.now ≤ network.made (suc n)
  pub said : task_of policy view ≡ Make (call_of call)

-- the call adds a key
abbrev pub is_add : Call → Bool
is_add (AddKeyKsk pubref privref algorithm key_tag created usable) = true
is_add (AddKeyZsk pubref privref algorithm key_tag created usable) = true
is_add (AddKeyCsk pubref privref algorithm key_tag created usable) = true
is_add (AddPublicKey pubref algorithm key_tag created usable) = true
is_add _ = false

-- each call adds a key, or was said; the policy may be another one each time
abbrev pub IsAutomatic : List ℕ → List Call → List Entry → Network → ℕ → Type 0
IsAutomatic name calls entries network time =
    (n : ℕ) (call : Call) → slice_get calls n ≡ Some call →
    (is_add call ≡ true) ⊎ IsSaid name calls entries network time n call
