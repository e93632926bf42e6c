-- The six rolls as columns of one table (RFC 6781, section 4.1; stamps: RFC 7583, section 3). A
-- column says what a start does to a new key; for each half of the roll which stamps the report
-- writes, which keys the wait checks, and what the wait does once it is over; what an early end
-- takes back; which actions are due. Tests read the flags before the call. The rest stays.
use Rattle.std.specs.Prelude.{true, not, if◌then◌else◌, false, Bool, List, ◌||◌, [], ◌∷◌, ℕ, Some}
use Rattle.std.specs.Prelude.{Option, None}
use Rattle.dnssec_base.specs.declared.time.Stamp.{Stamp}
use Rattle.dnssec_base.specs.declared.time.Stamp.TheVariants.{Visible, DsVisible, RrsigVisible}
use Rattle.dnssec_key.specs.State.{Flags, kept_present, kept_at_parent, old_present, is_any}
use Rattle.dnssec_key.specs.State.{is_leaving, old_at_parent, kept_signing, old_silent, is_old}
use Rattle.dnssec_key.specs.declared.kind.KeyType.{KeyType}
use Rattle.dnssec_key.specs.declared.kind.KeyType.TheVariants.{Ksk, Zsk, Csk, Include}
use Rattle.dnssec_key.specs.Key.{ksk, zsk, every_key, ksk_role, zsk_role, any_key, zone_key}
use Rattle.dnssec_key.specs.Key.{either, KeyParts}
pub use Rattle.dnssec_key.specs.Stamping.{Writes, writes_nothing, stamps_after}
use Rattle.dnssec_key.specs.declared.roll.Half.{Half}
use Rattle.dnssec_key.specs.declared.roll.Half.TheVariants.{First, Second}
use Rattle.dnssec_key.specs.declared.roll.PhaseEnd.{PhaseEnd}
use Rattle.dnssec_key.specs.declared.roll.PhaseEnd.TheVariants.{Report, Wait}
use Rattle.dnssec_key.specs.declared.roll.Action.{Action}
use Rattle.dnssec_key.specs.declared.roll.Action.TheVariants.{ReportDnskeyPropagated, UpdateRrsig}
use Rattle.dnssec_key.specs.declared.roll.Action.TheVariants.{ReportRrsigPropagated, RemoveCdsRrset}
use Rattle.dnssec_key.specs.declared.roll.Action.TheVariants.{WaitDnskeyPropagated, CreateCdsRrset}
use Rattle.dnssec_key.specs.declared.roll.Action.TheVariants.{WaitRrsigPropagated, WaitDsPropagated}
use Rattle.dnssec_key.specs.declared.roll.Action.TheVariants.{ReportDsPropagated, UpdateDnskeyRrset}
use Rattle.dnssec_key.specs.declared.roll.Action.TheVariants.{UpdateDsRrset}
use Rattle.dnssec_key.specs.declared.roll.RollType.{RollType}
use Rattle.dnssec_key.specs.declared.roll.RollType.TheVariants.{KskRoll, KskDoubleDsRoll, ZskRoll}
use Rattle.dnssec_key.specs.declared.roll.RollType.TheVariants.{ZskDoubleSignatureRoll, CskRoll}
use Rattle.dnssec_key.specs.declared.roll.RollType.TheVariants.{AlgorithmRoll}
use Rattle.dnssec_key.specs.declared.roll.RollState.{RollState}
use Rattle.dnssec_key.specs.declared.roll.RollState.TheVariants.{CacheExpire1, CacheExpire2}
use Rattle.dnssec_key.specs.declared.roll.RollState.TheVariants.{Propagation2, Done, Propagation1}

-- ---- what happens to one role, in the operator's words

-- the key goes into the DNSKEY set (RFC 6781, section 4.1.1.1)
abbrev pub comes_in : Flags → Flags
comes_in s = record s { present = true }

-- it goes into the DNSKEY set, and signs
abbrev pub comes_in_signing : Flags → Flags
comes_in_signing s = record s { present = true; signer = true }

-- its DS goes to the parent, ahead of the key (RFC 6781, section 4.1.2)
abbrev pub ds_comes_in : Flags → Flags
ds_comes_in s = record s { at_parent = true }

-- keys in the DNSKEY set that stay have a DS from now on, and no others (RFC 6781, section 4.1.2)
abbrev pub ds_follows : Flags → Flags
ds_follows s = if s.present then record s { at_parent = not s.old } else s

-- published keys that stay sign the zone from now on, old ones don't (RFC 6781, section 4.1.1.1)
abbrev pub signatures_follow : Flags → Flags
signatures_follow s =
    if kept_present s then record s { signer = true }
    else (if s.old then record s { signer = false } else s)

-- a key that leaves drops out of the DNSKEY set, and signs no more
abbrev pub leaves_dnskey : Flags → Flags
leaves_dnskey s = record s { present = false; signer = false }

-- the DS of a key that leaves is taken from the parent (RFC 6781, section 4.1.2)
abbrev pub leaves_parent : Flags → Flags
leaves_parent s = record s { at_parent = false }

-- a key that signs no more drops out of the DNSKEY set (RFC 6781, section 4.1.1.1)
abbrev pub leaves_silently : Flags → Flags
leaves_silently s = record s { present = false }

-- keys that leave drop out; keys with a DS that stay come in for them (RFC 6781, section 4.1.2)
abbrev pub keys_change_places : Flags → Flags
keys_change_places s =
    if old_present s then leaves_dnskey s
    else (if kept_at_parent s then comes_in_signing s else s)

-- it is on its way out from now on
abbrev pub turns_old : Flags → Flags
turns_old s = record s { old = true }

-- it is no longer on its way out
abbrev pub turns_back : Flags → Flags
turns_back s = record s { old = false }

-- nothing happens to it: to a role, or to a key
abbrev pub stays : {A : Type 0} → A → A
stays x = x

-- it happens only to roles, or keys, that pass
abbrev pub only : {A : Type 0} → (A → Bool) → (A → A) → A → A
only p f x = if p x then f x else x

-- ---- which roles it happens to

-- f at each KSK role, g at each ZSK role; another signer's key stays
abbrev pub at_roles : (Flags → Flags) → (Flags → Flags) → KeyType → KeyType
at_roles f g (Ksk s) = Ksk (f s)
at_roles f g (Zsk s) = Zsk (g s)
at_roles f g (Csk s t) = Csk (f s) (g t)
at_roles f g (Include s) = Include s

-- f at each role, KSK or ZSK
abbrev pub at_each_role : (Flags → Flags) → KeyType → KeyType
at_each_role f = at_roles f f

-- f at the role of a KSK, but not of a CSK
abbrev pub at_ksk : (Flags → Flags) → KeyType → KeyType
at_ksk f = only (ksk is_any) (at_roles f stays)

-- f at the role of a ZSK, but not of a CSK
abbrev pub at_zsk : (Flags → Flags) → KeyType → KeyType
at_zsk f = only (zsk is_any) (at_roles stays f)

-- ---- the columns

-- whether it is the second half of a roll, as a report says it
abbrev pub is_second : Half → Bool
is_second First = false
is_second Second = true

-- half of a roll: a change spreads and is reported, then old data leaves the caches
pub record HalfRoll : Type 0 where
  pub report : Writes  -- the stamps that the report writes
  pub checks : KeyType → Bool  -- the keys that the wait checks
  pub reads : Stamp  -- the stamp that it reads of them
  pub moves : KeyType → KeyType  -- what happens once the wait is over
  pub writes : Writes  -- and the stamps that it writes then

-- a roll: its start, its two halves, and the actions due
pub record Column : Type 0 where
  pub comes : KeyType → KeyType  -- what a start puts on a new key
  pub writes : Writes  -- and the stamps that it writes on it
  pub asks : List Action  -- the actions due after the start
  pub goes : KeyType → KeyType  -- what an early end takes from a new key
  pub returns : KeyType → KeyType  -- and from an old one
  pub asks_early : List Action  -- the actions due after an early end
  pub first : HalfRoll
  pub asks_between : List Action  -- the actions due after the first wait
  pub second : HalfRoll
  pub asks_last : List Action  -- the actions due after the second wait

-- the column of each roll
unfoldable pub column : RollType → Column
-- Double-Signature KSK roll: both sign the DNSKEY set, then the DS moves (RFC 6781, section 4.1.2)
column KskRoll = record {
  comes = at_ksk comes_in_signing;
  writes = record writes_nothing { published = every_key };
  asks = UpdateDnskeyRrset ∷ ReportDnskeyPropagated ∷ [];
  goes = at_ksk leaves_dnskey;
  returns = at_ksk turns_back;
  asks_early = UpdateDnskeyRrset ∷ WaitDnskeyPropagated ∷ [];
  first = record {
    report = record writes_nothing { visible = ksk kept_present };
    checks = ksk (λ s. is_leaving s || kept_present s);
    reads = Visible;
    moves = at_ksk ds_follows;
    writes = writes_nothing;
  };
  asks_between = CreateCdsRrset ∷ UpdateDsRrset ∷ ReportDsPropagated ∷ [];
  second = record {
    report = record writes_nothing { ds_visible = ksk kept_at_parent };
    checks = ksk (λ s. is_leaving s || kept_at_parent s);
    reads = DsVisible;
    moves = at_ksk (only old_present leaves_dnskey);
    writes = record writes_nothing { withdrawn = ksk old_present };
  };
  asks_last = RemoveCdsRrset ∷ UpdateDnskeyRrset ∷ WaitDnskeyPropagated ∷ [];
}
-- Double-DS KSK roll: both keys have a DS, then the keys change places (RFC 6781, section 4.1.2)
column KskDoubleDsRoll = record {
  comes = at_ksk ds_comes_in;
  writes = writes_nothing;
  asks = CreateCdsRrset ∷ UpdateDsRrset ∷ ReportDsPropagated ∷ [];
  goes = at_ksk leaves_parent;
  returns = at_ksk turns_back;
  asks_early = CreateCdsRrset ∷ UpdateDsRrset ∷ WaitDsPropagated ∷ [];
  first = record {
    report = record writes_nothing { ds_visible = ksk kept_at_parent };
    checks = ksk kept_at_parent;
    reads = DsVisible;
    moves = at_ksk keys_change_places;
    writes = record writes_nothing { published = ksk kept_at_parent };
  };
  asks_between = RemoveCdsRrset ∷ UpdateDnskeyRrset ∷ ReportDnskeyPropagated ∷ [];
  second = record {
    report = record writes_nothing { visible = ksk kept_present };
    checks = ksk kept_present;
    reads = Visible;
    moves = at_ksk (only old_at_parent leaves_parent);
    writes = record writes_nothing { withdrawn = ksk old_at_parent };
  };
  asks_last = CreateCdsRrset ∷ UpdateDsRrset ∷ WaitDsPropagated ∷ [];
}
-- Pre-Publish ZSK roll: the new key is published before it signs (RFC 6781, section 4.1.1.1)
column ZskRoll = record {
  comes = at_zsk comes_in;
  writes = record writes_nothing { published = every_key };
  asks = UpdateDnskeyRrset ∷ ReportDnskeyPropagated ∷ [];
  goes = at_zsk leaves_silently;
  returns = at_zsk turns_back;
  asks_early = UpdateDnskeyRrset ∷ WaitDnskeyPropagated ∷ [];
  first = record {
    report = record writes_nothing { visible = zsk kept_present };
    checks = zsk kept_present;
    reads = Visible;
    moves = at_zsk signatures_follow;
    writes = writes_nothing;
  };
  asks_between = UpdateRrsig ∷ ReportRrsigPropagated ∷ [];
  second = record {
    report = record writes_nothing { rrsig_visible = zsk kept_signing };
    checks = zsk kept_signing;
    reads = RrsigVisible;
    moves = at_zsk (only old_silent leaves_silently);
    writes = record writes_nothing { withdrawn = zsk old_silent };
  };
  asks_last = UpdateDnskeyRrset ∷ WaitDnskeyPropagated ∷ [];
}
-- Double-Signature ZSK roll: both keys sign the zone for a while (RFC 6781, section 4.1.1.2)
column ZskDoubleSignatureRoll = record {
  comes = at_zsk comes_in_signing;
  writes = record writes_nothing { published = every_key };
  asks = UpdateDnskeyRrset ∷ UpdateRrsig ∷ ReportDnskeyPropagated ∷ ReportRrsigPropagated ∷ [];
  goes = at_zsk leaves_dnskey;
  returns = at_zsk turns_back;
  asks_early = UpdateDnskeyRrset ∷ UpdateRrsig ∷ WaitDnskeyPropagated ∷ WaitRrsigPropagated ∷ [];
  first = record {
    report = record writes_nothing { visible = zsk kept_present; rrsig_visible = zsk kept_present };
    checks = zsk kept_present;
    reads = Visible;
    moves = at_zsk (only is_old leaves_dnskey);
    writes = record writes_nothing { withdrawn = zsk is_old };
  };
  asks_between =
      UpdateDnskeyRrset ∷ UpdateRrsig ∷ ReportDnskeyPropagated ∷ ReportRrsigPropagated ∷ [];
  second = record {
    report = writes_nothing;
    checks = zsk kept_signing;
    reads = RrsigVisible;
    moves = stays;
    writes = writes_nothing;
  };
  asks_last = [];
}
-- CSK roll: the DNSKEY set, then DS and signatures (RFC 6781, section 4.1.3, has no roll like it)
column CskRoll = record {
  comes = at_roles comes_in_signing comes_in;
  writes = record writes_nothing { published = every_key };
  asks = UpdateDnskeyRrset ∷ ReportDnskeyPropagated ∷ [];
  goes = at_roles leaves_dnskey leaves_silently;
  returns = at_each_role turns_back;
  asks_early = UpdateDnskeyRrset ∷ WaitDnskeyPropagated ∷ [];
  first = record {
    report = record writes_nothing { visible = any_key kept_present };
    checks = any_key kept_present;
    reads = Visible;
    moves = at_roles ds_follows signatures_follow;
    writes = writes_nothing;
  };
  asks_between = CreateCdsRrset ∷ UpdateDsRrset ∷ UpdateRrsig ∷
      ReportDsPropagated ∷ ReportRrsigPropagated ∷ [];
  second = record {
    report = record writes_nothing {
      ds_visible = ksk_role kept_present;
      rrsig_visible = zsk_role kept_signing;
    };
    checks = zsk_role kept_signing;
    reads = RrsigVisible;
    moves = at_roles (only old_present leaves_dnskey) (only old_silent leaves_silently);
    writes = record writes_nothing {
      withdrawn = either (ksk_role old_present) (zsk_role old_silent);
    };
  };
  asks_last = RemoveCdsRrset ∷ UpdateDnskeyRrset ∷ WaitDnskeyPropagated ∷ [];
}
-- algorithm roll, liberal: keys and signatures at once, then the DS (RFC 6781, section 4.1.4)
column AlgorithmRoll = record {
  comes = at_each_role comes_in_signing;
  writes = record writes_nothing { published = every_key };
  asks = UpdateDnskeyRrset ∷ UpdateRrsig ∷ ReportDnskeyPropagated ∷ ReportRrsigPropagated ∷ [];
  goes = at_each_role leaves_dnskey;
  returns = at_each_role turns_back;
  asks_early = UpdateDnskeyRrset ∷ UpdateRrsig ∷ WaitDnskeyPropagated ∷ WaitRrsigPropagated ∷ [];
  first = record {
    report = record writes_nothing {
      visible = any_key kept_present;
      rrsig_visible = zone_key kept_present;
    };
    checks = any_key kept_present;
    reads = Visible;
    moves = at_roles ds_follows stays;
    writes = writes_nothing;
  };
  asks_between = CreateCdsRrset ∷ UpdateDsRrset ∷ ReportDsPropagated ∷ [];
  second = record {
    report = record writes_nothing { ds_visible = ksk_role kept_present };
    checks = ksk_role kept_signing;
    reads = DsVisible;
    moves = only (any_key old_present) (at_each_role leaves_dnskey);
    writes = record writes_nothing { withdrawn = any_key old_present };
  };
  asks_last = RemoveCdsRrset ∷ UpdateDnskeyRrset ∷ UpdateRrsig ∷
      WaitDnskeyPropagated ∷ WaitRrsigPropagated ∷ [];
}

-- a half of a roll, by its column
abbrev pub half_of : RollType → Half → HalfRoll
half_of roll First = (column roll).first
half_of roll Second = (column roll).second

-- ---- the table at one key

-- a key after an event that moves its flags and writes stamps, by its flags before
abbrev pub key_by : (KeyType → KeyType) → Writes → ℕ → KeyParts → KeyParts
key_by moves writes now k = record k {
  keytype = moves k.keytype;
  timestamps = stamps_after writes k.keytype now k.timestamps;
}

-- a key that a start lists as old
abbrev pub old_at_start : KeyParts → KeyParts
old_at_start k = record k { keytype = at_each_role turns_old k.keytype }

-- a key that a start lists as new
abbrev pub new_at_start : RollType → ℕ → KeyParts → KeyParts
new_at_start roll = key_by (column roll).comes (column roll).writes

-- a key after a start: is it listed as old, is it listed as new?
abbrev pub after_start : RollType → ℕ → Bool → Bool → KeyParts → KeyParts
after_start roll now as_old as_new k =
    let marked = (if as_old then old_at_start k else k) in
    if as_new then new_at_start roll now marked else marked

-- an old key of a roll that is ended early: it is no longer old, and no stamp changes
abbrev pub old_at_early_end : RollType → KeyParts → KeyParts
old_at_early_end roll k = record k { keytype = (column roll).returns k.keytype }

-- a new key of such a roll: it goes as it came, and no stamp changes
abbrev pub new_at_early_end : RollType → KeyParts → KeyParts
new_at_early_end roll k = record k { keytype = (column roll).goes k.keytype }

-- a key after an early end: is it still listed as old, is it still listed as new?
abbrev pub after_early_end : RollType → Bool → Bool → KeyParts → KeyParts
after_early_end roll as_old as_new k =
    let unmarked = (if as_old then old_at_early_end roll k else k) in
    if as_new then new_at_early_end roll unmarked else unmarked

-- a key after a report
abbrev pub after_report : RollType → Half → ℕ → KeyParts → KeyParts
after_report roll half = key_by stays (half_of roll half).report

-- a key after an accepted wait
abbrev pub after_wait : RollType → Half → ℕ → KeyParts → KeyParts
after_wait roll half = key_by (half_of roll half).moves (half_of roll half).writes

-- a key after either of them
abbrev pub after_end : PhaseEnd → RollType → Half → ℕ → KeyParts → KeyParts
after_end (Report ttl) = after_report
after_end Wait = after_wait

-- ---- phases, and what is asked in them

-- old data with this TTL leaves the caches
abbrev pub cache_expire : Half → ℕ → RollState
cache_expire First ttl = CacheExpire1 ttl
cache_expire Second ttl = CacheExpire2 ttl

-- the phase after the wait
abbrev pub after_expiry : Half → RollState
after_expiry First = Propagation2
after_expiry Second = Done

-- what a roll asks of the operator in a phase
abbrev pub actions_of : RollType → RollState → List Action
actions_of roll Propagation1 = (column roll).asks
actions_of roll (CacheExpire1 ttl) = []
actions_of roll Propagation2 = (column roll).asks_between
actions_of roll (CacheExpire2 ttl) = []
actions_of roll Done = (column roll).asks_last

-- the actions due now; none if the roll is in no phase
abbrev pub actions_due : RollType → Option RollState → List Action
actions_due roll None = []
actions_due roll (Some phase) = actions_of roll phase
