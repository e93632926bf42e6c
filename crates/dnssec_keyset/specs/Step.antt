-- The allowed step: from a key set, which reply a call may have and which key set it then leaves
-- (RFC 6781, section 4.1). If there is a cause to refuse the call, it is answered. Else the call is
-- accepted; or, if it takes memory, it may run out of it. This is the clause of each changing call.
use Rattle.std.specs.Prelude.{Option, None, List, [], ◌∷◌, ℕ, ◌≡◌, Result, Err, IsOk, Ok}
use Rattle.std.specs.Prelude.{if◌then◌else◌, Some, ◌≢◌, map}
use Rattle.std.specs.Option.{option_or}
use Rattle.std.specs.FinMap.{get, entries, from_entries, insert, remove}
use Rattle.std.specs.Duration.{as_nanos}
use Rattle.std.specs.declared.time.Duration.{Duration}
use Rattle.std.specs.declared.vec.Vec.{Vec}
use Rattle.std.specs.Global.{Global}
use Rattle.std.specs.Str.{bytes_eq}
use Rattle.dnssec_base.specs.declared.error.Error.{Error}
use Rattle.dnssec_base.specs.declared.error.Error.TheVariants.{Wait as WaitFor, OutOfMemory}
use Rattle.dnssec_key.specs.declared.roll.RollType.{RollType}
use Rattle.dnssec_key.specs.declared.roll.Half.{Half}
use Rattle.dnssec_key.specs.RollTable.{column, actions_of, after_expiry, after_start}
use Rattle.dnssec_key.specs.RollTable.{after_report, after_early_end, after_wait, cache_expire}
use Rattle.dnssec_key.specs.declared.roll.Action.{Action}
use Rattle.dnssec_key.specs.Key.{KeyParts}
use Rattle.dnssec_key.specs.Setters.{Setting, is_flag_setting, set_by}
use Rattle.dnssec_key.specs.declared.roll.RollState.TheVariants.{Propagation1}
use Rattle.dnssec_zone.specs.Start.{old_fault, suitability_fault, new_fault, conflict}
use Rattle.dnssec_zone.specs.Start.{algorithm_fault, is_listed}
use Rattle.dnssec_zone.specs.Rolls.{phase_of, with_phase}
use Rattle.dnssec_zone.specs.Wait.{ttl_in, wait_in_phase, Clearance, Barred, Early, Clear}
use Rattle.dnssec_zone.specs.Wait.{barred_by}
use Rattle.dnssec_zone.specs.Refusals.{early_end_refusal, deletion_refusal, add_refusal}
use Rattle.dnssec_zone.specs.Refusals.{end_refusal, setting_refusal, report_refusal}
use Rattle.dnssec_zone.specs.Lists.{Lists, without, listed_by, nothing_listed, with_listed}
use Rattle.dnssec_zone.specs.Lists.{lists_after_report, listed_at_start}
use Rattle.dnssec_zone.specs.Keys.{Keys}
use Rattle.dnssec_keyset.specs.KeySet.{KeySetParts}

-- ---- what a start and a wait answer

-- the first cause that applies, if any
abbrev pub first_of_causes : List (Option Error) → Option Error
first_of_causes [] = None
first_of_causes (cause ∷ causes) = option_or cause (first_of_causes causes)

-- why a start is refused: the first cause, in this order
abbrev pub start_refusal : RollType → KeySetParts → List (List ℕ) → List (List ℕ) → Option Error
start_refusal roll set olds news = first_of_causes (
    conflict roll set.rolls
    ∷ old_fault roll (get set.keys) olds
    ∷ new_fault roll (get set.keys) olds [] news
    ∷ algorithm_fault roll (get set.keys) olds news
    ∷ suitability_fault roll set.keys olds news
    ∷ [])

-- whether the wait of a roll is barred, early or clear, in the phase that the roll is in
abbrev pub wait_clearance : RollType → Half → ℕ → KeySetParts → Clearance
wait_clearance roll half now set =
    wait_in_phase roll half (ttl_in half (phase_of set.rolls roll)) now set.keys

-- a check of a wait answers by its clearance
abbrev pub AnswersWait : {T : Type 0} → Clearance → Result T Error → Type 0
AnswersWait (Barred cause) r = r ≡ Err cause
AnswersWait (Early left) r = (d : Duration) × (r ≡ Err (WaitFor d)) × (as_nanos d ≡ left)
AnswersWait Clear r = IsOk r

-- ---- the step

-- the calls that can change a key set
pub data Call : Type 0 where
  AddKey : List ℕ → KeyParts → Call
  Set : List ℕ → Setting → Call
  DeleteKey : List ℕ → Call
  StartRoll : RollType → List (List ℕ) → List (List ℕ) → ℕ → Call
  Report : RollType → Half → ℕ → ℕ → Call
  Wait : RollType → Half → ℕ → Call
  RollDone : RollType → Call
  AbortRoll : RollType → Call

-- what a call answers: done, actions for the operator, or why it is refused
pub data Reply : Type 0 where
  Done : Reply
  Actions : List Action → Reply
  Refused : Error → Reply

-- what a call of `KeySet` answered, as a reply
abbrev pub reply_done : Result (Unit {0}) Error → Reply
reply_done (Ok u) = Done
reply_done (Err cause) = Refused cause

-- the same of a call that answers actions
abbrev pub reply_list : Result (Vec Action Global) Error → Reply
reply_list (Ok actions) = Actions actions.items
reply_list (Err cause) = Refused cause

-- whether each call is barred, early or clear
abbrev pub clearance : KeySetParts → Call → Clearance
clearance set (AddKey reference key) = barred_by (add_refusal set.keys reference key.key_tag)
clearance set (Set reference setting) = barred_by (setting_refusal setting (get set.keys reference))
clearance set (DeleteKey reference) = barred_by (deletion_refusal (get set.keys reference))
clearance set (StartRoll roll olds news now) = barred_by (start_refusal roll set olds news)
clearance set (Report roll half ttl now) = barred_by (report_refusal half (phase_of set.rolls roll))
clearance set (Wait roll half now) = wait_clearance roll half now set
clearance set (RollDone roll) = barred_by (end_refusal (phase_of set.rolls roll))
clearance set (AbortRoll roll) = barred_by (early_end_refusal (phase_of set.rolls roll))

-- what an accepted call answers: the actions due in the phase after it
abbrev pub accepted_reply : Call → Reply
accepted_reply (AddKey reference key) = Done
accepted_reply (Set reference setting) = Done
accepted_reply (DeleteKey reference) = Done
accepted_reply (StartRoll roll olds news now) = Actions (actions_of roll Propagation1)
accepted_reply (Report roll half ttl now) = Actions []
accepted_reply (Wait roll half now) = Actions (actions_of roll (after_expiry half))
accepted_reply (RollDone roll) = Actions []
accepted_reply (AbortRoll roll) = Actions (column roll).asks_early

-- ---- what a call changes

-- a key whose flag is set by hand goes from all lists
abbrev pub lists_after_setting : Setting → List ℕ → Lists → Lists
lists_after_setting setting reference lists =
    if is_flag_setting setting then without reference lists else lists

-- every key changed by f, under its reference
abbrev pub keys_by : (List ℕ → KeyParts → KeyParts) → Keys → Keys
keys_by f keys = from_entries (map (λ (e : List ℕ × KeyParts). (e.0, f e.0 e.1)) (entries keys))

-- the set after an accepted call
abbrev pub after : Call → KeySetParts → KeySetParts
after (AddKey reference key) set = record set { keys = insert set.keys reference key }
after (Set reference setting) set = record set {
  keys = keys_by (λ q k. if bytes_eq reference q then set_by setting k else k) set.keys;
  lists = lists_after_setting setting reference set.lists;
}
after (DeleteKey reference) set = record set {
  keys = remove set.keys reference;
  lists = without reference set.lists;
}
after (StartRoll roll olds news now) set = record set {
  keys = keys_by (λ q. after_start roll now (is_listed olds q) (is_listed news q)) set.keys;
  rolls = with_phase set.rolls roll (Some Propagation1);
  lists = with_listed set.lists roll (listed_at_start set.keys olds news);
}
after (Report roll half ttl now) set = record set {
  keys = keys_by (λ q. after_report roll half now) set.keys;
  rolls = with_phase set.rolls roll (Some (cache_expire half ttl));
  lists = lists_after_report roll half set.lists;
}
after (Wait roll half now) set = record set {
  keys = keys_by (λ q. after_wait roll half now) set.keys;
  rolls = with_phase set.rolls roll (Some (after_expiry half));
}
after (RollDone roll) set = record set { rolls = with_phase set.rolls roll None }
after (AbortRoll roll) set =
    let listed = listed_by set.lists roll in
    record set {
      keys = keys_by
          (λ q. after_early_end roll (is_listed listed.olds q) (is_listed listed.news q)) set.keys;
      rolls = with_phase set.rolls roll None;
      lists = with_listed set.lists roll nothing_listed;
    }

-- the calls that take memory: adds, starts, early ends, and waits with a list to answer
abbrev pub TakesMemory : Call → Type 0
TakesMemory (AddKey reference key) = Unit {0}
TakesMemory (Set reference setting) = ⊥
TakesMemory (DeleteKey reference) = ⊥
TakesMemory (StartRoll roll olds news now) = Unit {0}
TakesMemory (Report roll half ttl now) = ⊥
TakesMemory (Wait roll half now) = actions_of roll (after_expiry half) ≢ []
TakesMemory (RollDone roll) = ⊥
TakesMemory (AbortRoll roll) = Unit {0}

-- what a call of this clearance may be refused for: what bars it; the time that is left; or, if it
-- is clear and takes memory, for want of that
abbrev pub IsRefusedFor : Clearance → Call → Error → Type 0
IsRefusedFor (Barred cause) call error = error ≡ cause
IsRefusedFor (Early left) call error = (d : Duration) × (error ≡ WaitFor d) × (as_nanos d ≡ left)
IsRefusedFor Clear call error = TakesMemory call × (error ≡ OutOfMemory)

-- From old, the call may have the reply and leave new. Refused, it changed nothing. Accepted, it
-- was clear, and its answer and its changes are the table's.
abbrev pub Step : KeySetParts → Call → Reply → KeySetParts → Type 0
Step old call (Refused error) new = IsRefusedFor (clearance old call) call error × (new ≡ old)
Step old call reply new =
    (clearance old call ≡ Clear) × (reply ≡ accepted_reply call) × (new ≡ after call old)

-- the set after a call with this reply
abbrev pub after_reply : Reply → Call → KeySetParts → KeySetParts
after_reply Done call set = after call set
after_reply (Actions actions) call set = after call set
after_reply (Refused cause) call set = set
