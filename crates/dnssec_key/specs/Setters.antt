-- What each setter changes in a key, and why a key refuses it. With a setter an operator does by
-- hand what a roll does to many keys (RFC 6781, section 4.1).
use Rattle.std.specs.Prelude.{ℕ, Bool, true, false, Some, Option, None, if◌then◌else◌}
use Rattle.dnssec_base.specs.Stamps.{first_published}
use Rattle.dnssec_base.specs.declared.error.Error.{Error}
use Rattle.dnssec_base.specs.declared.error.Error.TheVariants.{WrongKeyType}
use Rattle.dnssec_key.specs.declared.setting.Setting.{Setting as SettingOfCode}
use Rattle.dnssec_key.specs.declared.kind.KeyType.{KeyType}
use Rattle.dnssec_key.specs.declared.kind.KeyType.TheVariants.{Include}
use Rattle.dnssec_key.specs.State.{Flags, is_any}
use Rattle.dnssec_key.specs.RollTable.{at_each_role, at_roles, stays}
use Rattle.dnssec_key.specs.Key.{KeyParts, ksk_role, any_key}
use Rattle.dnssec_key.specs.declared.setting.Setting.TheVariants as code

-- what a setter sets
pub data Setting : Type 0 where
  Decoupled : Bool → Setting
  Present : Bool → ℕ → Setting  -- at this moment
  Signer : Bool → Setting
  AtParent : Bool → Setting
  Stale : Setting
  VisibleAt : ℕ → Setting
  DsVisibleAt : ℕ → Setting
  RrsigVisibleAt : ℕ → Setting

-- the setting that the code means
abbrev pub setting_of : SettingOfCode → Setting
setting_of (code.Decoupled value) = Decoupled value
setting_of (code.Present value now) = Present value now
setting_of (code.Signer value) = Signer value
setting_of (code.AtParent value) = AtParent value
setting_of code.Stale = Stale
setting_of (code.VisibleAt time) = VisibleAt time
setting_of (code.DsVisibleAt time) = DsVisibleAt time
setting_of (code.RrsigVisibleAt time) = RrsigVisibleAt time

-- ---- what a setter changes

-- f at each state of the key, also at that of another signer's key
abbrev pub at_each_state : (Flags → Flags) → KeyType → KeyType
at_each_state f (Include s) = Include (f s)
at_each_state f k = at_each_role f k

-- it is in the DNSKEY set, or not
abbrev pub with_present : Bool → Flags → Flags
with_present value s = record s { present = value }

-- it signs, or not
abbrev pub with_signer : Bool → Flags → Flags
with_signer value s = record s { signer = value }

-- it has to have a DS record at the parent, or not
abbrev pub with_at_parent : Bool → Flags → Flags
with_at_parent value s = record s { at_parent = value }

-- it has left: it is old, and in no use
abbrev pub stale_by_hand : Flags → Flags
stale_by_hand s = record s { old = true; signer = false; present = false; at_parent = false }

-- a key after a setter
abbrev pub set_by : Setting → KeyParts → KeyParts
set_by (Decoupled value) k = record k { decoupled = value }
set_by (Present value now) k = record k {
  keytype = at_each_state (with_present value) k.keytype;
  timestamps = record k.timestamps { published = first_published value now k.timestamps.published };
}
set_by (Signer value) k = record k { keytype = at_each_state (with_signer value) k.keytype }
set_by (AtParent value) k = record k { keytype = at_roles (with_at_parent value) stays k.keytype }
set_by Stale k = record k { keytype = at_each_state stale_by_hand k.keytype }
set_by (VisibleAt time) k = record k { timestamps = record k.timestamps { visible = Some time } }
set_by (DsVisibleAt time) k =
    record k { timestamps = record k.timestamps { ds_visible = Some time } }
set_by (RrsigVisibleAt time) k =
    record k { timestamps = record k.timestamps { rrsig_visible = Some time } }

-- it sets a flag, not a time, and not whether the key is decoupled
abbrev pub is_flag_setting : Setting → Bool
is_flag_setting (Present value now) = true
is_flag_setting (Signer value) = true
is_flag_setting (AtParent value) = true
is_flag_setting Stale = true
is_flag_setting _ = false

-- ---- why it is refused

-- another signer's key signs nothing here, and only a KSK role has a DS
abbrev pub suits_kind : Setting → KeyType → Bool
suits_kind (Signer value) k = any_key is_any k
suits_kind (AtParent value) k = ksk_role is_any k
suits_kind _ k = true

-- why a key refuses a setter
abbrev pub kind_refusal : Setting → KeyType → Option Error
kind_refusal setting k = if suits_kind setting k then None else Some WrongKeyType
