-- The record of a run: the key set at each position, what the call there answered, and what it left
-- published.
use Rattle.std.specs.Prelude.{◌≡◌, ◌≤◌, ℕ, zero, suc, Bool, true, false, List, length, slice_get}
use Rattle.std.specs.Prelude.{Option, None, Some, if◌then◌else◌, string_bytes}
use Rattle.std.specs.Option.{option_map}
use Rattle.std.specs.Str.{bytes_eq}
use Rattle.dnssec_key.specs.declared.kind.KeyType.TheVariants.{Ksk, Zsk, Csk, Include}
use Rattle.dnssec_key.specs.Setters.{Decoupled, Present, Signer, AtParent, Stale, VisibleAt}
use Rattle.dnssec_key.specs.Setters.{DsVisibleAt, RrsigVisibleAt}
use Rattle.dnssec_key.specs.declared.roll.Half.TheVariants.{First, Second}
use Rattle.dnssec_key.specs.Key.{new_key, new_state, is_available}
use Rattle.dnssec_keyset.specs.KeySet.{new_set}
use Rattle.dnssec_zone.specs.Start.{texts}
use Rattle.dnssec_zone.specs.Keys.{TagsApart}
use Rattle.dnssec_keyset.specs.Laws.{RollsTogether, LeavesOthers, AreApart}
use Rattle.dnssec_keyset.specs.Laws.{MayBeExchanged}
use Rattle.dnssec_keyset.specs.Step as keyset
use Rattle.dnssec_run.specs.declared.call.Call.{Call}
use Rattle.dnssec_run.specs.declared.call.Call.TheVariants.{AddKeyKsk, AddKeyZsk, AddKeyCsk}
use Rattle.dnssec_run.specs.declared.call.Call.TheVariants.{AddPublicKey, SetDecoupled}
use Rattle.dnssec_run.specs.declared.call.Call.TheVariants.{SetPresent, SetSigner, SetAtParent}
use Rattle.dnssec_run.specs.declared.call.Call.TheVariants.{SetStale, SetVisible, SetDsVisible}
use Rattle.dnssec_run.specs.declared.call.Call.TheVariants.{SetRrsigVisible, DeleteKey}
use Rattle.dnssec_run.specs.declared.call.Call.TheVariants.{StartRoll, Propagation1Complete}
use Rattle.dnssec_run.specs.declared.call.Call.TheVariants.{CacheExpired1, Propagation2Complete}
use Rattle.dnssec_run.specs.declared.call.Call.TheVariants.{CacheExpired2, RollDone, AbortRoll}
use Rattle.dnssec_run.specs.declared.record.Reply.{Reply}
use Rattle.dnssec_run.specs.declared.record.Reply.TheVariants.{Done, Actions, Refused}
use Rattle.dnssec_run.specs.declared.record.Mark.{Mark}
use Rattle.dnssec_run.specs.declared.record.Mark.TheVariants.{Other, Step, Report}
use Rattle.dnssec_run.specs.declared.record.Entry.{Entry}
use Rattle.dnssec_run.specs.Published.{World, IsPublished}

-- ---- calls and replies, as the key set sees them

-- a call, as the key set sees it
abbrev pub call_of : Call → keyset.Call
call_of (AddKeyKsk pubref privref algorithm key_tag created available) =
    let state = new_state (is_available available) in
    keyset.AddKey (string_bytes pubref)
    (new_key (option_map string_bytes privref) (Ksk state) algorithm key_tag created)
call_of (AddKeyZsk pubref privref algorithm key_tag created available) =
    let state = new_state (is_available available) in
    keyset.AddKey (string_bytes pubref)
    (new_key (option_map string_bytes privref) (Zsk state) algorithm key_tag created)
call_of (AddKeyCsk pubref privref algorithm key_tag created available) =
    let state = new_state (is_available available) in
    keyset.AddKey (string_bytes pubref)
    (new_key (option_map string_bytes privref) (Csk state state) algorithm key_tag created)
call_of (AddPublicKey pubref algorithm key_tag created available) =
    keyset.AddKey (string_bytes pubref)
    (new_key None (Include (new_state available)) algorithm key_tag created)
call_of (SetDecoupled pubref value) = keyset.Set pubref.now (Decoupled value)
call_of (SetPresent pubref value now) = keyset.Set pubref.now (Present value now)
call_of (SetSigner pubref value) = keyset.Set pubref.now (Signer value)
call_of (SetAtParent pubref value) = keyset.Set pubref.now (AtParent value)
call_of (SetStale pubref) = keyset.Set pubref.now Stale
call_of (SetVisible pubref time) = keyset.Set pubref.now (VisibleAt time)
call_of (SetDsVisible pubref time) = keyset.Set pubref.now (DsVisibleAt time)
call_of (SetRrsigVisible pubref time) = keyset.Set pubref.now (RrsigVisibleAt time)
call_of (DeleteKey pubref) = keyset.DeleteKey pubref.now
call_of (StartRoll roll old new now) = keyset.StartRoll roll (texts old.now) (texts new.now) now
call_of (Propagation1Complete roll ttl now) = keyset.Report roll First ttl now
call_of (CacheExpired1 roll now) = keyset.Wait roll First now
call_of (Propagation2Complete roll ttl now) = keyset.Report roll Second ttl now
call_of (CacheExpired2 roll now) = keyset.Wait roll Second now
call_of (RollDone roll) = keyset.RollDone roll
call_of (AbortRoll roll) = keyset.AbortRoll roll

-- a reply, as the key set gave it
abbrev pub reply_of : Reply → keyset.Reply
reply_of Done = keyset.Done
reply_of (Actions actions) = keyset.Actions actions.items
reply_of (Refused cause) = keyset.Refused cause

-- ---- the moment and the mark of an entry

-- the moment that a call is given as now, if any; a creation stamp is no such moment, nor is the
-- time of a setter
abbrev pub call_moment : Call → Option ℕ
call_moment (SetPresent pubref value now) = Some now
call_moment (StartRoll roll old new now) = Some now
call_moment (Propagation1Complete roll ttl now) = Some now
call_moment (CacheExpired1 roll now) = Some now
call_moment (Propagation2Complete roll ttl now) = Some now
call_moment (CacheExpired2 roll now) = Some now
call_moment _ = None

-- What an accepted call means for the caches. The next report of a roll counts from its start or
-- its first wait, and a report says for how long caches may hold older data.
abbrev pub mark_of : Call → Mark
mark_of (StartRoll roll old new now) = Step roll
mark_of (CacheExpired1 roll now) = Step roll
mark_of (Propagation1Complete roll ttl now) = Report roll false ttl
mark_of (Propagation2Complete roll ttl now) = Report roll true ttl
mark_of _ = Other

-- a refused call means nothing for them
abbrev pub mark_after : Call → Reply → Mark
mark_after call Done = mark_of call
mark_after call (Actions actions) = mark_of call
mark_after call (Refused cause) = Other

-- ---- positions

-- the reference of the key that a call adds, if any
abbrev pub reference_added : keyset.Call → Option (List ℕ)
reference_added (keyset.AddKey reference key) = Some reference
reference_added _ = None

-- the call was accepted
abbrev pub is_accepted : Reply → Bool
is_accepted Done = true
is_accepted (Actions actions) = true
is_accepted (Refused cause) = false

-- the positions of the adds, after one more at position n, if any
abbrev pub with_added : ℕ → Option (List ℕ) → (List ℕ → ℕ) → List ℕ → ℕ
with_added n None added q = added q
with_added n (Some reference) added q = if bytes_eq reference q then n else added q

-- an accepted add makes a key of its own
abbrev pub added_by : ℕ → Call → Reply → (List ℕ → ℕ) → List ℕ → ℕ
added_by n call reply added =
    if is_accepted reply then with_added n (reference_added (call_of call)) added else added

-- what is there after a call with this reply, at position n
abbrev pub world_after : ℕ → World → Call → Reply → World
world_after n w call reply = record {
  set = keyset.after_reply (reply_of reply) (call_of call) w.set;
  added = added_by n call reply w.added;
}

-- the same with the entry of the call, if both are there
abbrev pub world_next : ℕ → World → Option Call → Option Entry → World
world_next n w (Some call) (Some entry) = world_after n w call entry.reply
world_next n w _ _ = w

-- a new key set of this name
abbrev pub new_world : List ℕ → World
new_world name = record { set = new_set name; added = λ q. 0 }

-- what is there at a position: position 0 is the new set, position n comes after call n
unfoldable pub world_at : List ℕ → List Call → List Entry → ℕ → World
world_at name calls entries zero = new_world name
world_at name calls entries (suc n) =
    world_next (suc n) (world_at name calls entries n) (slice_get calls n) (slice_get entries n)

-- ---- the record

-- an entry is that of a call that goes from w to v: its reply is allowed, and its parts are those
-- of the call and of v
pub record IsEntry (w v : World) (call : Call) (entry : Entry) : Type 0 where
  pub step : keyset.Step w.set (call_of call) (reply_of entry.reply) v.set
  pub mark : entry.mark ≡ mark_after call entry.reply
  pub moment : entry.moment ≡ call_moment call
  pub published : IsPublished entry.published v

-- the entries are the record of a run of the calls on a new key set of this name
pub record IsRun (name : List ℕ) (calls : List Call) (entries : List Entry) : Type 0 where
  pub count : length entries ≡ length calls
  pub each : (n : ℕ) (call : Call) (entry : Entry) →
      slice_get calls n ≡ Some call → slice_get entries n ≡ Some entry →
      IsEntry (world_at name calls entries n) (world_at name calls entries (suc n)) call entry

-- ---- what holds at every position

-- no two keys have one tag, and the rolls in progress may be in progress together
pub record IsSound (w : World) : Type 0 where
  pub tags : TagsApart w.set.keys
  pub rolls : RollsTogether w.set.rolls

-- the key set is sound at every position
abbrev pub StaysSound : List ℕ → List Call → List Entry → Type 0
StaysSound name calls entries =
    (n : ℕ) → n ≤ length entries → IsSound (world_at name calls entries n)

-- a call on a roll leaves the keys as they were whose kind the roll doesn't change
abbrev pub KeepsSidesApart : List ℕ → List Call → List Entry → Type 0
KeepsSidesApart name calls entries = (n : ℕ) (call : Call) (entry : Entry) →
    slice_get calls n ≡ Some call → slice_get entries n ≡ Some entry →
    LeavesOthers (world_at name calls entries n).set (call_of call)
    (world_at name calls entries (suc n)).set

-- Two neighbouring calls of rolls that go together may be exchanged. The second with its reply and
-- then the first with its reply are allowed steps too, and end in the same set.
abbrev pub NeighboursMayBeExchanged : List ℕ → List Call → List Entry → Type 0
NeighboursMayBeExchanged name calls entries = (n : ℕ) (first second : Call) (e f : Entry) →
    slice_get calls n ≡ Some first → slice_get entries n ≡ Some e →
    slice_get calls (suc n) ≡ Some second → slice_get entries (suc n) ≡ Some f →
    AreApart (call_of first) (call_of second) →
    MayBeExchanged (world_at name calls entries n).set
    (world_at name calls entries (suc (suc n))).set
    (call_of first) (call_of second) (reply_of e.reply) (reply_of f.reply)
