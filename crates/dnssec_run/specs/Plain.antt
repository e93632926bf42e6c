-- The lists of calls for which every position of the record is safe. Only the calls count, and
-- whether each was accepted: nothing here knows of keys, flags, stamps or phases.
use Rattle.std.specs.Prelude.{◌≡◌, ◌≢◌, ℕ, zero, suc, ◌<◌, ◌≤◌, Bool, true, false, List, length}
use Rattle.std.specs.Prelude.{slice_get, Option, None, Some, if◌then◌else◌, string_bytes}
use Rattle.std.specs.Str.{bytes_eq}
use Rattle.dnssec_key.specs.declared.roll.RollType.{RollType}
use Rattle.dnssec_key.specs.declared.roll.RollType.TheVariants.{KskRoll, KskDoubleDsRoll}
use Rattle.dnssec_key.specs.declared.roll.RollType.TheVariants.{CskRoll, AlgorithmRoll}
use Rattle.dnssec_run.specs.declared.call.Call.{Call}
use Rattle.dnssec_run.specs.declared.call.Call.TheVariants.{AddKeyKsk, AddKeyZsk, AddKeyCsk}
use Rattle.dnssec_run.specs.declared.call.Call.TheVariants.{AddPublicKey, SetPresent, SetSigner}
use Rattle.dnssec_run.specs.declared.call.Call.TheVariants.{SetAtParent, SetStale, SetVisible}
use Rattle.dnssec_run.specs.declared.call.Call.TheVariants.{SetDsVisible, SetRrsigVisible}
use Rattle.dnssec_run.specs.declared.call.Call.TheVariants.{DeleteKey, StartRoll, CacheExpired1}
use Rattle.dnssec_run.specs.declared.call.Call.TheVariants.{AbortRoll}
use Rattle.dnssec_run.specs.declared.record.Entry.{Entry}
use Rattle.dnssec_run.specs.Record.{IsRun, is_accepted}
use Rattle.dnssec_run.specs.Safe.{IsSafe}

-- ---- whose key a reference names

-- Whether the reference names another signer's key after an accepted call, given whether it did
-- before. `add_public_key` adds such a key, which signs nothing here and has no DS (RFC 8901,
-- section 2.1). The other adds add a key of this signer, and after a deletion no key is named.
abbrev pub others_after : Call → List ℕ → Bool → Bool
others_after (AddPublicKey pubref algorithm key_tag created usable) q before =
    if bytes_eq (string_bytes pubref) q then true else before
others_after (AddKeyKsk pubref privref algorithm key_tag created usable) q before =
    if bytes_eq (string_bytes pubref) q then false else before
others_after (AddKeyZsk pubref privref algorithm key_tag created usable) q before =
    if bytes_eq (string_bytes pubref) q then false else before
others_after (AddKeyCsk pubref privref algorithm key_tag created usable) q before =
    if bytes_eq (string_bytes pubref) q then false else before
others_after (DeleteKey pubref) q before = if bytes_eq pubref.now q then false else before
others_after _ q before = before

-- the same after a call with its entry, if both are there; a refused call changes nothing
abbrev pub others_next : Option Call → Option Entry → List ℕ → Bool → Bool
others_next (Some call) (Some entry) q before =
    if is_accepted entry.reply then others_after call q before else before
others_next _ _ q before = before

-- at position n the reference names another signer's key: the last accepted call up to there that
-- added or deleted a key of this reference is `add_public_key`
unfoldable pub names_others : List Call → List Entry → ℕ → List ℕ → Bool
names_others calls entries zero q = false
names_others calls entries (suc n) q =
    others_next (slice_get calls n) (slice_get entries n) q (names_others calls entries n q)

-- ---- what is set by hand

-- The call sets no flag and no time by hand. It may put into the DNSKEY set, or take out, only the
-- keys of these references.
abbrev pub sets_only_others : (List ℕ → Bool) → Call → Bool
sets_only_others others (SetPresent pubref value now) = others pubref.now
sets_only_others others (SetSigner pubref value) = false
sets_only_others others (SetAtParent pubref value) = false
sets_only_others others (SetStale pubref) = false
sets_only_others others (SetVisible pubref time) = false
sets_only_others others (SetDsVisible pubref time) = false
sets_only_others others (SetRrsigVisible pubref time) = false
sets_only_others others _ = true

-- all that the calls set by hand is to put keys of other signers into the DNSKEY set or take them
-- out
abbrev pub SetsOnlyOthersPresent : List Call → List Entry → Type 0
SetsOnlyOthersPresent calls entries = (n : ℕ) (call : Call) → slice_get calls n ≡ Some call →
    sets_only_others (names_others calls entries n) call ≡ true

-- ---- what comes first

-- the roll that a call starts, if any
abbrev pub start_of : Call → Option RollType
start_of (StartRoll roll old new now) = Some roll
start_of _ = None

-- the roll whose first wait a call ends, if any
abbrev pub first_wait_of : Call → Option RollType
first_wait_of (CacheExpired1 roll now) = Some roll
first_wait_of _ = None

-- the roll that a call ends early, if any
abbrev pub early_end_of : Call → Option RollType
early_end_of (AbortRoll roll) = Some roll
early_end_of _ = None

-- no call ends a roll early
abbrev pub EndsNoneEarly : List Call → Type 0
EndsNoneEarly calls = (n : ℕ) (call : Call) (roll : RollType) → slice_get calls n ≡ Some call →
    early_end_of call ≢ Some roll

-- the call after position n is accepted, and does this for the roll
pub record DoesAt (does : Call → Option RollType) (calls : List Call) (entries : List Entry)
    (n : ℕ) (roll : RollType) : Type 0 where
  pub call : Call
  pub entry : Entry
  pub call_is : slice_get calls n ≡ Some call
  pub entry_is : slice_get entries n ≡ Some entry
  pub accepted : is_accepted entry.reply ≡ true
  pub roll_is : does call ≡ Some roll

-- a roll of keys that the parent's DS already has to follow: it needs an algorithm roll before it
abbrev pub needs_algorithm_roll : RollType → Bool
needs_algorithm_roll KskRoll = true
needs_algorithm_roll KskDoubleDsRoll = true
needs_algorithm_roll CskRoll = true
needs_algorithm_roll _ = false

-- before each accepted start of a KSK roll or of a CSK roll, an accepted call does this for an
-- algorithm roll: that brings the zone its first keys
abbrev pub AlgorithmRollFirst : (Call → Option RollType) → List Call → List Entry → Type 0
AlgorithmRollFirst does calls entries = (n : ℕ) (roll : RollType) → needs_algorithm_roll roll ≡ true
    →
    DoesAt start_of calls entries n roll →
    (m : ℕ) × (m < n) × DoesAt does calls entries m AlgorithmRoll

-- ---- plain lists

-- By hand, only keys of other signers are put in or taken out. Before each accepted start of a KSK
-- roll or of a CSK roll, the first wait of an algorithm roll is over.
pub record IsPlain (name : List ℕ) (calls : List Call) (entries : List Entry) : Type 0 where
  pub setters : SetsOnlyOthersPresent calls entries
  pub first : AlgorithmRollFirst first_wait_of calls entries

-- if the list is plain, every position of its record is safe
abbrev pub StaysSafe : List ℕ → List Call → List Entry → Type 0
StaysSafe name calls entries =
    IsPlain name calls entries → (n : ℕ) → n ≤ length entries → IsSafe entries n

-- the same without early ends, said by what an operator starts: an algorithm roll before each KSK
-- roll or CSK roll
pub record IsPlainByStarts (name : List ℕ) (calls : List Call) (entries : List Entry)
    : Type 0 where
  pub setters : SetsOnlyOthersPresent calls entries
  pub no_early_end : EndsNoneEarly calls
  pub first : AlgorithmRollFirst start_of calls entries

-- such a list is plain: until an algorithm roll is past its first wait, no roll of KSKs or CSKs
-- starts
abbrev pub StartsSuffice : Type 0
StartsSuffice = (name : List ℕ) (calls : List Call) (entries : List Entry) →
    IsRun name calls entries → IsPlainByStarts name calls entries → IsPlain name calls entries
