-- How long a roll takes, and how long a key signs, if calls are made once they are said. All times
-- are in nanoseconds.
use Rattle.std.specs.Prelude.{◌≡◌, ◌⊎◌, ℕ, suc, ◌+◌, ◌-◌, ◌*◌, ◌^◌, ◌<◌, ◌≤◌, true, false, List, []}
use Rattle.std.specs.Prelude.{◌∷◌, length, slice_get, unwrap_or, Some, Ok}
use Rattle.std.specs.{FinMap.get, List.list_any}
use Rattle.dnssec_key.specs.declared.roll.{RollState.TheVariants.Done, RollType.RollType}
use Rattle.dnssec_key.specs.Key.{KeyParts}
use Rattle.dnssec_key.specs.declared.roll.Half.{Half, TheVariants.First, TheVariants.Second}
use Rattle.dnssec_key.specs.RollTable.{is_second}
use Rattle.dnssec_zone.specs.{Keys.some_key, Rolls.phase_of, Rolls.same_roll}
use Rattle.dnssec_keyset.specs.Step as keyset
use Rattle.dnssec_run.specs.declared.{call.Call.Call, record.Entry.Entry, caches.SetKind.SetKind}
use Rattle.dnssec_run.specs.{declared.running.LastStep.LastStep, Plain.DoesAt, Plain.start_of}
use Rattle.dnssec_run.specs.{Record.IsRun, Record.call_of, Record.world_at, Steps.origin_in}
use Rattle.dnssec_run.specs.WholeRolls.{HasLeft, IsAccepted, end_of, propagation}
use Rattle.dnssec_run.specs.Safe.{SetKind as AnyKind, kind_of, retires}
use Rattle.dnssec_network.specs.{declared.spread.Reach.TheVariants.Everywhere, Network.Network}
use Rattle.dnssec_policy.specs.{declared.policy.Policy.Policy, Automatic.IsViewAt, Automatic.is_add}
use Rattle.dnssec_policy.specs.InProgress.{ends_with}
use Rattle.dnssec_policy.specs.Keys.{is_unwanted, new_keys, renewal_of, role_of, rolls_of, serves}
use Rattle.dnssec_policy.specs.{Laws.NoneLiesAheadOf, Next.may_begin, Next.next_of}
use Rattle.dnssec_policy.specs.Todo.{Make, Todo, rank}
use Rattle.dnssec_policy.specs.{Ttls.report_takes, Ttls.roll_takes, View.View, View.reach_in}

-- ---- calls that are made once they are said

-- what is known after so many calls at a moment, and the policy then
pub record Watch : Type 0 where
  pub view : ℕ → ℕ → View
  pub policy : ℕ → Policy

-- what is then said
abbrev pub said : Watch → ℕ → ℕ → Todo
said watch n now = next_of (watch.policy now) (watch.view n now)

-- n calls have been made at this moment, and the next isn't made before it
abbrev pub IsAfter : List Entry → Network → ℕ → ℕ → Type 0
IsAfter entries network n now = (n ≤ length entries) × (network.made n ≤ now)
    × (n < length entries → now ≤ network.made (suc n))

-- up to a time calls are made once they are said
pub record AreMade (name : List ℕ) (calls : List Call) (entries : List Entry) (network : Network)
    (watch : Watch) (lag time : ℕ) : Type 0 where
  -- a moment has less than 2 ^ 64 seconds
  pub clock : time < 2 ^ 64 * 1_000_000_000
  pub in_order : (n : ℕ) → n < length entries → network.made n ≤ network.made (suc n)
  -- what is known is true, and no noted moment lies ahead
  pub known : (n now : ℕ) → IsAfter entries network n now → now ≤ time →
      IsViewAt name calls entries network time n (watch.view n now)
      × ((watch.view n now).now ≡ now) × NoneLiesAheadOf (watch.view n now)
  -- each call adds a key, or was said
  pub are_said : (n : ℕ) (call : Call) → slice_get calls n ≡ Some call →
      (is_add call ≡ true) ⊎ ((now : ℕ) × IsAfter entries network n now × (now ≤ time)
      × (said watch n now ≡ Make (call_of call)))
  -- once a call is said, the next is made within the lag
  pub prompt : (n now : ℕ) → IsAfter entries network n now → now + lag ≤ time →
      rank (said watch n now) ≡ 0 →
      (n < length entries) × (network.made (suc n) ≤ now + lag)

-- ---- what a roll waits for

-- how long servers may take to give the sets of a start, of a first wait and of a second one
pub record Delays : Type 0 where
  pub start : ℕ
  pub first : ℕ
  pub second : ℕ

-- until the report of a half
abbrev pub delay_of : Delays → Half → ℕ
delay_of delays First = delays.start
delay_of delays Second = delays.first

-- by the notes all servers give the sets of the roll's steps within these delays
pub record SpreadWithin (entries : List Entry) (network : Network) (watch : Watch) (time : ℕ)
    (roll : RollType) (delays : Delays) : Type 0 where
  -- those that its reports speak of
  pub reports : (n now : ℕ) (half : Half) (step : LastStep) →
      IsAfter entries network n now → now ≤ time →
      let v = watch.view n now in
      phase_of v.set.rolls roll ≡ Some (propagation half) →
      v.step roll ≡ Some step →
      network.made step.at + delay_of delays half ≤ now →
      (kind : SetKind) → retires roll (is_second half) (kind_of kind) ≡ true →
      reach_in v kind (origin_in step.origins (kind_of kind)) ≡ Everywhere
  -- and those that its last actions wait for
  pub ends : (n now base : ℕ) →
      IsAfter entries network n now → now ≤ time →
      let v = watch.view n now in
      phase_of v.set.rolls roll ≡ Some Done →
      v.last roll ≡ Some base →
      network.made base + delays.second ≤ now →
      (kind : SetKind) → ends_with roll kind ≡ true → reach_in v kind base ≡ Everywhere

-- no TTL that is noted is higher, and 32 bits hold those of the roll's reports
pub record HasTtls (entries : List Entry) (network : Network) (watch : Watch) (time : ℕ)
    (roll : RollType) (ttl : AnyKind → ℕ) : Type 0 where
  pub highest : (n now : ℕ) (kind : AnyKind) → IsAfter entries network n now → now ≤ time →
      (watch.view n now).highest kind ≤ ttl kind
  pub small : (half : Half) → report_takes ttl roll (is_second half) ≤ 4_294_967_295

-- ---- how long a roll takes

-- the three delays, and its two waits
abbrev pub roll_lasts : Delays → (AnyKind → ℕ) → RollType → ℕ
roll_lasts delays ttl roll =
    delays.start + delays.first + delays.second + roll_takes ttl roll * 1_000_000_000

-- the roll is done by an accepted call, and not earlier
abbrev pub IsDone : List Call → List Entry → RollType → ℕ → ℕ → Type 0
IsDone calls entries roll s n = (s < n) × IsAccepted calls entries n (keyset.RollDone roll)
    × ((m : ℕ) → s < m → m < n → DoesAt end_of calls entries m roll → ⊥)

-- A roll that was started is done after its delays and its waits, and a lag for each call that was
-- made meanwhile, of whatever roll; if that time is past.
abbrev pub RollsEnd : Type 0
RollsEnd =
    (name : List ℕ) (calls : List Call) (entries : List Entry) (network : Network) (watch : Watch)
    (lag time : ℕ) (roll : RollType) (delays : Delays) (ttl : AnyKind → ℕ)
    (s : ℕ) (olds news : List (List ℕ)) (now : ℕ) →
    IsRun name calls entries →
    AreMade name calls entries network watch lag time →
    SpreadWithin entries network watch time roll delays →
    HasTtls entries network watch time roll ttl →
    IsAccepted calls entries s (keyset.StartRoll roll olds news now) →
    let lasts = roll_lasts delays ttl roll in
    network.made (suc s) + lasts + lag * (length entries - s) ≤ time →
    (n : ℕ) × IsDone calls entries roll s n
    × (network.made (suc n) ≤ network.made (suc s) + lasts + lag * (n - s))

-- ---- how long a key signs

-- the policy renews a key at work by this roll, its lifetime is over, and nothing bars the roll: it
-- may begin, a new key is there, and no key is in use that the policy doesn't want
pub record IsDue (policy : Policy) (v : View) (roll : RollType) (q : List ℕ) : Type 0 where
  pub renews : list_any (same_roll roll) (rolls_of policy.scheme) ≡ true
  pub key : KeyParts
  pub there : get v.set.keys q ≡ Some key
  pub works : serves (role_of roll) key.keytype ≡ true
  pub lifetime : ℕ
  pub lifetime_is : (renewal_of policy (role_of roll)).lifetime ≡ Some lifetime
  pub over : unwrap_or key.timestamps.published 0 + lifetime * 1_000_000_000 ≤ v.now
  pub begins : may_begin v roll ≡ true
  pub wanted : some_key (is_unwanted policy) v.set.keys ≡ false
  pub news : List (List ℕ)
  pub news_are : new_keys policy v.set.keys (role_of roll ∷ []) ≡ Ok news

-- A key whose lifetime is over at a moment, after m calls, and is due from then on until its roll
-- starts, has left once that roll is done: after the time that the roll takes, and a lag for each
-- call meanwhile.
abbrev pub KeysLeave : Type 0
KeysLeave =
    (name : List ℕ) (calls : List Call) (entries : List Entry) (network : Network) (watch : Watch)
    (lag time : ℕ) (roll : RollType) (delays : Delays) (ttl : AnyKind → ℕ)
    (m over : ℕ) (q : List ℕ) →
    IsRun name calls entries →
    AreMade name calls entries network watch lag time →
    SpreadWithin entries network watch time roll delays →
    HasTtls entries network watch time roll ttl →
    IsAfter entries network m over →
    ((n now : ℕ) → m ≤ n → over ≤ now → IsAfter entries network n now → now ≤ time →
    ((k : ℕ) → m ≤ k → k < n → DoesAt start_of calls entries k roll → ⊥) →
    IsDue (watch.policy now) (watch.view n now) roll q) →
    let lasts = roll_lasts delays ttl roll in
    over + lasts + lag * (suc (length entries) - m) ≤ time →
    (s n : ℕ) × (m ≤ s) × IsDone calls entries roll s n
    × (network.made (suc n) ≤ over + lasts + lag * (suc n - m))
    × HasLeft (world_at name calls entries (suc s)) (world_at name calls entries (suc n)) q
