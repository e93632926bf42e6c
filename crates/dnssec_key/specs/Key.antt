-- What a contract sees of a key, and which of its roles a sentence speaks of: that of a KSK, that
-- of a ZSK, or both (RFC 6781, section 3.1).
use Rattle.std.specs.Prelude.{ℕ, List, Bool, true, false, ◌&&◌, ◌||◌, Option, None, Some}
use Rattle.std.specs.Option.{option_map_or}
use Rattle.dnssec_key.specs.declared.kind.KeyType.{KeyType}
use Rattle.dnssec_key.specs.declared.kind.KeyType.TheVariants.{Ksk, Zsk, Csk, Include}
use Rattle.dnssec_key.specs.declared.kind.Available.{Available as Availability}
use Rattle.dnssec_key.specs.declared.kind.Available.TheVariants.{Available, NotAvailable}
use Rattle.dnssec_key.specs.State.{Flags}
use Rattle.dnssec_base.specs.Stamps.{Stamps, no_stamps}

-- the parts of a key; a private reference is its bytes
pub record KeyParts : Type 0 where
  pub privref : Option (List ℕ)
  pub decoupled : Bool
  pub keytype : KeyType
  pub algorithm : ℕ
  pub key_tag : ℕ
  pub timestamps : Stamps

-- ---- the roles of a key

-- the role of a KSK, but not of a CSK
abbrev pub ksk_state : KeyType → Option Flags
ksk_state (Ksk s) = Some s
ksk_state _ = None

-- the role of a ZSK, but not of a CSK
abbrev pub zsk_state : KeyType → Option Flags
zsk_state (Zsk s) = Some s
zsk_state _ = None

-- the KSK role of a KSK or a CSK
abbrev pub ksk_role_state : KeyType → Option Flags
ksk_role_state (Ksk s) = Some s
ksk_role_state (Csk s t) = Some s
ksk_role_state _ = None

-- the ZSK role of a ZSK or a CSK
abbrev pub zsk_role_state : KeyType → Option Flags
zsk_role_state (Zsk s) = Some s
zsk_role_state (Csk s t) = Some t
zsk_role_state _ = None

-- the only state of a key, or that of its KSK role
abbrev pub first_state : KeyType → Flags
first_state (Ksk s) = s
first_state (Zsk s) = s
first_state (Csk s t) = s
first_state (Include s) = s

-- the same, but nothing for another signer's key
abbrev pub key_state : KeyType → Option Flags
key_state (Include s) = None
key_state k = Some (first_state k)

-- the same for the keys that can sign the zone, ZSKs and CSKs
abbrev pub zone_key_state : KeyType → Option Flags
zone_key_state (Zsk s) = Some s
zone_key_state (Csk s t) = Some s
zone_key_state _ = None

-- a KSK, but not a CSK, whose state passes
abbrev pub ksk : (Flags → Bool) → KeyType → Bool
ksk p k = option_map_or p (ksk_state k) false

-- a ZSK, but not a CSK, whose state passes
abbrev pub zsk : (Flags → Bool) → KeyType → Bool
zsk p k = option_map_or p (zsk_state k) false

-- a KSK or a CSK whose KSK role passes
abbrev pub ksk_role : (Flags → Bool) → KeyType → Bool
ksk_role p k = option_map_or p (ksk_role_state k) false

-- a ZSK or a CSK whose ZSK role passes
abbrev pub zsk_role : (Flags → Bool) → KeyType → Bool
zsk_role p k = option_map_or p (zsk_role_state k) false

-- a key of this signer whose state passes; for a CSK the state of its KSK role
abbrev pub any_key : (Flags → Bool) → KeyType → Bool
any_key p k = option_map_or p (key_state k) false

-- a ZSK or a CSK whose state passes; for a CSK the state of its KSK role
abbrev pub zone_key : (Flags → Bool) → KeyType → Bool
zone_key p k = option_map_or p (zone_key_state k) false

-- every key, also another signer's
abbrev pub every_key : KeyType → Bool
every_key k = true

-- no key
abbrev pub no_key : KeyType → Bool
no_key k = false

-- a key that passes one test or the other
abbrev pub either : (KeyType → Bool) → (KeyType → Bool) → KeyType → Bool
either p q k = p k || q k

-- each state of the key passes, also that of another signer's key
abbrev pub all_states : (Flags → Bool) → KeyType → Bool
all_states p (Ksk s) = p s
all_states p (Zsk s) = p s
all_states p (Csk s t) = p s && p t
all_states p (Include s) = p s

-- ---- a new key

-- the new key may come in by a roll
abbrev pub is_available : Availability → Bool
is_available Available = true
is_available NotAvailable = false

-- no flag, except the one that lets it come in
abbrev pub new_state : Bool → Flags
new_state available = record {
  available = available;
  old = false;
  signer = false;
  present = false;
  at_parent = false;
}

-- a key that was made, and nothing more
abbrev pub new_key : Option (List ℕ) → KeyType → ℕ → ℕ → ℕ → KeyParts
new_key privref keytype algorithm key_tag created = record {
  privref = privref;
  decoupled = false;
  keytype = keytype;
  algorithm = algorithm;
  key_tag = key_tag;
  timestamps = record no_stamps { creation = Some created };
}
