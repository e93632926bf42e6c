-- What a contract sees of one role of a key. The words for it are the operator's (RFC 6781, section
-- 4.1; RFC 7583, section 3.1).
use Rattle.std.specs.Prelude.{Bool, ◌||◌, not, ◌&&◌, true}

-- the flags of one role of a key (RFC 6781, section 3.1: KSK, ZSK and both in one)
pub record Flags : Type 0 where
  pub available : Bool  -- may come in by a roll
  pub old : Bool  -- is on its way out
  pub signer : Bool  -- signs the DNSKEY set, or the zone
  pub present : Bool  -- is in the DNSKEY set
  pub at_parent : Bool  -- has to have a DS record at the parent

-- it signs, is in the DNSKEY set, or has a DS at the parent
abbrev pub is_used : Flags → Bool
is_used s = s.signer || s.present || s.at_parent

-- has not begun to come in
abbrev pub is_future : Flags → Bool
is_future s = not s.old && not (is_used s)

-- may come in, and has not begun to
abbrev pub is_fresh : Flags → Bool
is_fresh s = s.available && is_future s

-- a ZSK role at work
abbrev pub is_active_zsk : Flags → Bool
is_active_zsk s = not s.old && s.present && s.signer

-- a KSK role at work, with its DS at the parent
abbrev pub is_active_ksk : Flags → Bool
is_active_ksk s = is_active_zsk s && s.at_parent

-- has left, so the key may be deleted
abbrev pub is_stale : Flags → Bool
is_stale s = s.old && not (is_used s)

-- is leaving, and not yet gone
abbrev pub is_leaving : Flags → Bool
is_leaving s = s.old && is_used s

-- ---- tests that the tables of the rolls name; a role that is not old stays

-- any state
abbrev pub is_any : Flags → Bool
is_any s = true

-- is on its way out, or has left
abbrev pub is_old : Flags → Bool
is_old s = s.old

-- stays
abbrev pub is_kept : Flags → Bool
is_kept s = not s.old

-- signs the DNSKEY set, or the zone
abbrev pub is_signer : Flags → Bool
is_signer s = s.signer

-- has to have a DS record at the parent
abbrev pub is_at_parent : Flags → Bool
is_at_parent s = s.at_parent

-- stays, and is in the DNSKEY set
abbrev pub kept_present : Flags → Bool
kept_present s = is_kept s && s.present

-- stays, and signs
abbrev pub kept_signing : Flags → Bool
kept_signing s = is_kept s && s.signer

-- stays, and has to have a DS record at the parent
abbrev pub kept_at_parent : Flags → Bool
kept_at_parent s = is_kept s && s.at_parent

-- is on its way out, and still in the DNSKEY set
abbrev pub old_present : Flags → Bool
old_present s = s.old && s.present

-- is on its way out, and still has to have a DS record at the parent
abbrev pub old_at_parent : Flags → Bool
old_at_parent s = s.old && s.at_parent

-- is old, and doesn't sign
abbrev pub old_silent : Flags → Bool
old_silent s = s.old && not s.signer
