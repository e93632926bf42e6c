-- Calls that a person makes by hand: no policy says them, so no law says what may follow.
use Rattle.std.specs.Prelude.{ℕ, zero, suc, ◌&&◌, not, Bool, true, false, List, slice_get}
use Rattle.std.specs.Prelude.{Option, None, Some, if◌then◌else◌}
use Rattle.std.specs.{Option.option_or, FinMap.get}
use Rattle.dnssec_key.specs.declared.kind.KeyType.{KeyType, TheVariants.Include}
use Rattle.dnssec_key.specs.Key.{KeyParts}
use Rattle.dnssec_keyset.specs.KeySet.{KeySetParts}
use Rattle.dnssec_run.specs.declared.call.Call.{Call, TheVariants.AbortRoll}
use Rattle.dnssec_run.specs.declared.record.{Entry.Entry, Reply.Reply}
use Rattle.dnssec_run.specs.{Plain.sets_only_others, Record.is_accepted, Record.world_at}

-- ---- one call

abbrev pub is_others_kind : KeyType → Bool
is_others_kind (Include state) = true
is_others_kind _ = false

abbrev pub is_others_key : Option KeyParts → Bool
is_others_key None = false
is_others_key (Some k) = is_others_kind k.keytype

-- the reference names another signer's key
abbrev pub is_others : KeySetParts → List ℕ → Bool
is_others set q = is_others_key (get set.keys q)

-- The call ends a roll early, or sets a flag or a time of a key. Other signers' keys may come and
-- go.
abbrev pub is_by_hand : KeySetParts → Call → Bool
is_by_hand set (AbortRoll roll) = true
is_by_hand set call = not (sets_only_others (is_others set) call)

-- its position, if it is by hand and accepted
abbrev pub at_if_by_hand : Bool → Reply → ℕ → Option ℕ
at_if_by_hand by_hand reply at = if by_hand && is_accepted reply then Some at else None

-- ---- the first one

abbrev pub by_hand_at : KeySetParts → Option Call → Option Entry → ℕ → Option ℕ
by_hand_at set (Some call) (Some entry) at = at_if_by_hand (is_by_hand set call) entry.reply at
by_hand_at set _ _ at = None

-- its position among the first n calls
unfoldable pub first_by_hand : List ℕ → List Call → List Entry → ℕ → Option ℕ
first_by_hand name calls entries zero = None
first_by_hand name calls entries (suc n) = option_or (first_by_hand name calls entries n)
    (by_hand_at (world_at name calls entries n).set (slice_get calls n) (slice_get entries n)
    (suc n))
