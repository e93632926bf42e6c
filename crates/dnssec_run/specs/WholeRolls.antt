-- The laws of whole rolls. They hold for every run in which by hand only keys of other signers are
-- put in or taken out. A roll that was started can be finished, its waits are over at an exact
-- moment, and nothing is left half done.
use Rattle.std.specs.Prelude.{◌≡◌, ◌≢◌, ℕ, suc, ◌+◌, ◌-◌, ◌*◌, ◌<◌, ◌≤◌, ◌⊎◌}
use Rattle.std.specs.Prelude.{Bool, true, false, ◌&&◌, ◌||◌, List, length, slice_get, Some}
use Rattle.std.specs.Prelude.{Option, None}
use Rattle.std.specs.Duration.{as_nanos}
use Rattle.std.specs.declared.time.Duration.{Duration}
use Rattle.std.specs.FinMap.{get}
use Rattle.dnssec_base.specs.declared.error.Error.TheVariants.{WrongKeyState, OutOfMemory}
use Rattle.dnssec_base.specs.declared.error.Error.TheVariants.{Wait as TooEarly}
use Rattle.dnssec_key.specs.declared.kind.KeyType.{KeyType}
use Rattle.dnssec_key.specs.declared.kind.KeyType.TheVariants.{Ksk, Zsk, Csk, Include}
use Rattle.dnssec_key.specs.declared.roll.RollType.{RollType}
use Rattle.dnssec_key.specs.declared.roll.RollType.TheVariants.{ZskDoubleSignatureRoll}
use Rattle.dnssec_key.specs.declared.roll.RollState.{RollState}
use Rattle.dnssec_key.specs.declared.roll.RollState.TheVariants.{Propagation1, Propagation2}
use Rattle.dnssec_key.specs.declared.roll.RollState.TheVariants.{Done}
use Rattle.dnssec_key.specs.State.{Flags, is_future, is_active_ksk, is_active_zsk, is_stale}
use Rattle.dnssec_key.specs.Key.{KeyParts, all_states}
use Rattle.dnssec_zone.specs.Rolls.{phase_of}
use Rattle.dnssec_key.specs.declared.roll.Half.{Half}
use Rattle.dnssec_key.specs.declared.roll.Half.TheVariants.{First, Second}
use Rattle.dnssec_key.specs.RollTable.{cache_expire, is_second}
use Rattle.dnssec_zone.specs.Start.{is_listed}
use Rattle.dnssec_keyset.specs.Laws.{in_progress}
use Rattle.dnssec_keyset.specs.Step as keyset
use Rattle.dnssec_run.specs.declared.call.Call.{Call}
use Rattle.dnssec_run.specs.declared.call.Call.TheVariants.{RollDone, AbortRoll}
use Rattle.dnssec_run.specs.declared.record.Entry.{Entry}
use Rattle.dnssec_run.specs.declared.record.Mark.TheVariants.{Report}
use Rattle.dnssec_run.specs.Plain.{DoesAt, SetsOnlyOthersPresent}
use Rattle.dnssec_run.specs.Published.{World}
use Rattle.dnssec_run.specs.Record.{call_of, is_accepted, call_moment, reply_of, world_at}
use Rattle.dnssec_run.specs.Safe.{position_at}

-- ---- words of the laws

-- of two calls with moments the later one's is not below the earlier one's
abbrev pub NeverFalls : List Call → Type 0
NeverFalls calls = (i j : ℕ) (c d : Call) (a b : ℕ) → i ≤ j →
    slice_get calls i ≡ Some c → slice_get calls j ≡ Some d →
    call_moment c ≡ Some a → call_moment d ≡ Some b → a ≤ b

-- after position n this call is made, and has its entry
pub record IsMade (calls : List Call) (entries : List Entry) (n : ℕ) (call : keyset.Call)
    : Type 0 where
  pub made : Call
  pub entry : Entry
  pub made_is : slice_get calls n ≡ Some made
  pub entry_is : slice_get entries n ≡ Some entry
  pub call_is : call_of made ≡ call

-- after position n this call is made, and accepted
abbrev pub IsAccepted : List Call → List Entry → ℕ → keyset.Call → Type 0
IsAccepted calls entries n call =
    (m : IsMade calls entries n call) × (is_accepted m.entry.reply ≡ true)

-- ---- no wait misses a stamp

-- no wait finds a key without the stamp that it reads; a report wrote that stamp
abbrev pub NeverMissesStamp : List ℕ → List Call → List Entry → Type 0
NeverMissesStamp name calls entries = SetsOnlyOthersPresent calls entries →
    (n : ℕ) (roll : RollType) (half : Half) (now : ℕ)
    (wait : IsMade calls entries n (keyset.Wait roll half now)) →
    reply_of wait.entry.reply ≢ keyset.Refused WrongKeyState

-- ---- between the rolls

-- each role of the key passes: its KSK role the first test, its ZSK role the second; a key of
-- another signer has no role here
abbrev pub each_role : (Flags → Bool) → (Flags → Bool) → KeyType → Bool
each_role p q (Ksk s) = p s
each_role p q (Zsk s) = q s
each_role p q (Csk s t) = p s && q t
each_role p q (Include s) = true

-- a KSK role that hasn't begun to come in, is at work, or has left
abbrev pub is_settled_ksk : Flags → Bool
is_settled_ksk s = is_future s || is_active_ksk s || is_stale s

-- the same of a ZSK role
abbrev pub is_settled_zsk : Flags → Bool
is_settled_zsk s = is_future s || is_active_zsk s || is_stale s

-- if no roll is in progress, each role is future, active or stale: nothing is half done
abbrev pub SettlesBetweenRolls : List ℕ → List Call → List Entry → Type 0
SettlesBetweenRolls name calls entries = SetsOnlyOthersPresent calls entries →
    (n : ℕ) → n ≤ length entries →
    ((roll : RollType) → in_progress (world_at name calls entries n).set.rolls roll ≡ false) →
    (q : List ℕ) (k : KeyParts) → get (world_at name calls entries n).set.keys q ≡ Some k →
    each_role is_settled_ksk is_settled_zsk k.keytype ≡ true

-- ---- how long a wait lasts

-- the last accepted report of this half of the roll up to position n
pub record LastReport (entries : List Entry) (roll : RollType) (half : Half) (n : ℕ)
    : Type 0 where
  pub at : ℕ
  pub ttl : ℕ
  pub moment : ℕ
  pub within : at ≤ n
  pub mark : (position_at entries at).mark ≡ Report roll (is_second half) ttl
  pub moment_is : (position_at entries at).moment ≡ Some moment
  pub last : (m ttl : ℕ) → at < m → m ≤ n →
      (position_at entries m).mark ≢ Report roll (is_second half) ttl

-- A wait counts from the moment of the report of its half. But both waits of a Double-Signature ZSK
-- roll count from the first report, which speaks of keys and signatures (RFC 6781, section
-- 4.1.1.2).
abbrev pub counts_from : RollType → Half → Half
counts_from ZskDoubleSignatureRoll half = First
counts_from roll half = half

-- The answer at a moment to a call that may succeed from `due` on. Before `due` it says how long is
-- left. From then on it is success, or lack of memory.
pub record WaitsUntil (due now : ℕ) (reply success : keyset.Reply) : Type 0 where
  pub early : now < due →
      (d : Duration) × (reply ≡ keyset.Refused (TooEarly d)) × (as_nanos d ≡ due - now)
  pub over : due ≤ now → (reply ≡ success) ⊎ (reply ≡ keyset.Refused OutOfMemory)

-- a wait in its phase is over once its report's TTL has passed since the moment that it counts from
-- (RFC 6781, section 4.1; RFC 7583, section 3)
abbrev pub WaitsExactly : List ℕ → List Call → List Entry → Type 0
WaitsExactly name calls entries = SetsOnlyOthersPresent calls entries → NeverFalls calls →
    (n : ℕ) (roll : RollType) (half : Half) (now ttl : ℕ)
    (wait : IsMade calls entries n (keyset.Wait roll half now)) →
    phase_of (world_at name calls entries n).set.rolls roll ≡ Some (cache_expire half ttl) →
    (last : LastReport entries roll half n) × (last.ttl ≡ ttl) ×
    (from : LastReport entries roll (counts_from roll half) n) ×
    WaitsUntil (from.moment + last.ttl * 1_000_000_000) now (reply_of wait.entry.reply)
    (keyset.accepted_reply (keyset.Wait roll half now))

-- ---- whole rolls

-- the phase in which a change spreads, until it is reported
abbrev pub propagation : Half → RollState
propagation First = Propagation1
propagation Second = Propagation2

-- a report while its change spreads, and the end of a roll in its last phase, are accepted
pub record GoesOn (name : List ℕ) (calls : List Call) (entries : List Entry) : Type 0 where
  pub reports : (n : ℕ) (roll : RollType) (half : Half) (ttl now : ℕ)
      (report : IsMade calls entries n (keyset.Report roll half ttl now)) →
      phase_of (world_at name calls entries n).set.rolls roll ≡ Some (propagation half) →
      is_accepted report.entry.reply ≡ true
  pub ends : (n : ℕ) (roll : RollType) (end : IsMade calls entries n (keyset.RollDone roll)) →
      phase_of (world_at name calls entries n).set.rolls roll ≡ Some Done →
      is_accepted end.entry.reply ≡ true

-- the key that w has at the reference is stale in v, unless it was deleted in between
abbrev pub HasLeft : World → World → List ℕ → Type 0
HasLeft w v q = v.added q ≡ w.added q → (k : KeyParts) → get v.set.keys q ≡ Some k →
    all_states is_stale k.keytype ≡ true

-- the key that w has at the reference is still there in v, and each role of it is at work
abbrev pub IsAtWork : World → World → List ℕ → Type 0
IsAtWork w v q = (v.added q ≡ w.added q) × (k : KeyParts) × (get v.set.keys q ≡ Some k) ×
    (each_role is_active_ksk is_active_zsk k.keytype ≡ true)

-- the roll that a call ends, if any: in its last phase, or early
abbrev pub end_of : Call → Option RollType
end_of (RollDone roll) = Some roll
end_of (AbortRoll roll) = Some roll
end_of _ = None

-- When a started roll ends, and not early, each key that it listed as old is stale or was deleted,
-- and each role of each key that it listed as new is at work.
abbrev pub RollsFinish : List ℕ → List Call → List Entry → Type 0
RollsFinish name calls entries = SetsOnlyOthersPresent calls entries →
    (s n : ℕ) (roll : RollType) (olds news : List (List ℕ)) (now : ℕ) → s < n →
    IsAccepted calls entries s (keyset.StartRoll roll olds news now) →
    IsAccepted calls entries n (keyset.RollDone roll) →
    ((m : ℕ) → s < m → m < n → DoesAt end_of calls entries m roll → ⊥) →
    let w = world_at name calls entries (suc s) in
    let v = world_at name calls entries (suc n) in
    ((q : List ℕ) → is_listed olds q ≡ true → HasLeft w v q) ×
    ((q : List ℕ) → is_listed news q ≡ true → IsAtWork w v q)
