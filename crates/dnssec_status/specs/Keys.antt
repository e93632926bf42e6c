-- The keys of a status.
use Rattle.std.specs.Prelude.{ℕ, ◌/◌, Bool, ◌&&◌, List, ◌++◌, codes, decimal}
use Rattle.std.specs.Prelude.{if◌then◌else◌}
use Rattle.std.specs.List.{filter, list_any}
use Rattle.std.specs.Str.{bytes_eq}
use Rattle.dnssec_base.specs.Stamps.{Stamps}
use Rattle.dnssec_key.specs.declared.kind.KeyType.{KeyType}
use Rattle.dnssec_key.specs.declared.kind.KeyType.TheVariants.{Ksk, Zsk, Csk, Include}
use Rattle.dnssec_key.specs.declared.roll.RollType.{RollType}
use Rattle.dnssec_key.specs.Key.{KeyParts, all_states}
use Rattle.dnssec_key.specs.Sides.{side_of}
use Rattle.dnssec_key.specs.State.{Flags, is_active_ksk, is_active_zsk, is_fresh, is_future}
use Rattle.dnssec_key.specs.State.{is_leaving, is_stale}
use Rattle.dnssec_zone.specs.Lists.{same_part}
use Rattle.dnssec_zone.specs.Rolls.{all_rolls, same_roll}
use Rattle.dnssec_zone.specs.Start.{lists_kind}
use Rattle.dnssec_record.specs.Courses.{Listing}
use Rattle.dnssec_zone.specs.declared.rolls.Part.{Part}
use Rattle.dnssec_zone.specs.declared.rolls.Part.TheVariants.{Old, New}
use Rattle.dnssec_status.specs.Json.{array_json, flag_json, option_json, text_json}
use Rattle.dnssec_status.specs.Names.{roll_json}

-- ---- the roles of a key

-- The word for the state of a role, given whether it is at work. A role that has begun to come in
-- and isn't at work is incoming.
unfoldable pub state_word : Bool → Flags → List ℕ
state_word is_active s =
    if is_active then codes "active"
    else (if is_future s then codes "future"
    else (if is_stale s then codes "stale"
    else (if is_leaving s then codes "leaving" else codes "incoming")))

-- the flags of a role
unfoldable pub flags_json : Flags → List ℕ
flags_json s =
    codes ",\"old\":" ++ flag_json s.old ++ codes ",\"signer\":" ++ flag_json s.signer
    ++ codes ",\"present\":" ++ flag_json s.present
    ++ codes ",\"at_parent\":" ++ flag_json s.at_parent

-- a role, given whether it is at work
unfoldable pub role_json : List ℕ → Bool → Flags → List ℕ
role_json role is_active s =
    codes "{\"role\":\"" ++ role ++ codes "\",\"state\":\"" ++ state_word is_active s ++ codes "\""
    ++ flags_json s ++ codes "}"

-- a KSK role: at work it signs the DNSKEY set, and has its DS
abbrev pub ksk_json : Flags → List ℕ
ksk_json s = role_json (codes "ksk") (is_active_ksk s) s

-- a ZSK role: at work it signs the zone
abbrev pub zsk_json : Flags → List ℕ
zsk_json s = role_json (codes "zsk") (is_active_zsk s) s

-- another signer's key, which never signs here
abbrev pub public_json : Flags → List ℕ
public_json s = role_json (codes "public") (is_active_zsk s) s

-- the kind of a key, and its roles
unfoldable pub kind_json : KeyType → List ℕ
kind_json (Ksk s) = codes "\"ksk\",\"roles\":[" ++ ksk_json s ++ codes "]"
kind_json (Zsk s) = codes "\"zsk\",\"roles\":[" ++ zsk_json s ++ codes "]"
kind_json (Csk s t) =
    codes "\"csk\",\"roles\":[" ++ ksk_json s ++ codes "," ++ zsk_json t ++ codes "]"
kind_json (Include s) = codes "\"public\",\"roles\":[" ++ public_json s ++ codes "]"

-- ---- the rolls of a key

-- the roll's start listed the key at a reference as this
abbrev pub has_listed : RollType → Part → List ℕ → Listing → Bool
has_listed roll part reference l =
    same_roll roll l.roll && same_part part l.part && bytes_eq reference l.reference

-- the rolls in progress whose starts listed the key at a reference as this, in the order of kinds
unfoldable pub rolls_of : Part → List ℕ → List Listing → List RollType
rolls_of part reference ls =
    filter (λ roll. list_any (has_listed roll part reference) ls) all_rolls

-- some roll may list keys of this kind
abbrev pub is_listed_by_some : KeyType → Bool
is_listed_by_some k = list_any (λ roll. lists_kind (side_of roll) k) all_rolls

-- some roll takes the key in: it may list keys of this kind, and the key is fresh
abbrev pub may_come_in : KeyType → Bool
may_come_in k = is_listed_by_some k && all_states is_fresh k

-- ---- a key

-- the whole seconds of a moment
abbrev pub seconds : ℕ → List ℕ
seconds moment = decimal (moment / 1_000_000_000)

-- its stamps
unfoldable pub stamps_json : Stamps → List ℕ
stamps_json t =
    codes ",\"creation\":" ++ option_json seconds t.creation
    ++ codes ",\"published\":" ++ option_json seconds t.published
    ++ codes ",\"visible\":" ++ option_json seconds t.visible
    ++ codes ",\"ds_visible\":" ++ option_json seconds t.ds_visible
    ++ codes ",\"rrsig_visible\":" ++ option_json seconds t.rrsig_visible
    ++ codes ",\"withdrawn\":" ++ option_json seconds t.withdrawn

-- what it was added with, and whether it is decoupled
unfoldable pub traits_json : KeyParts → List ℕ
traits_json k =
    codes ",\"algorithm\":" ++ decimal k.algorithm ++ codes ",\"tag\":" ++ decimal k.key_tag
    ++ codes ",\"private\":" ++ option_json text_json k.privref
    ++ codes ",\"decoupled\":" ++ flag_json k.decoupled

-- its reference, kind, traits and stamps
unfoldable pub front_json : List ℕ → KeyParts → List ℕ
front_json reference k =
    codes "{\"reference\":" ++ text_json reference ++ codes ",\"kind\":" ++ kind_json k.keytype
    ++ traits_json k ++ stamps_json k.timestamps

-- whether it may come in by a roll, whether it may be deleted, and its part in rolls
unfoldable pub end_json : List Listing → List ℕ → KeyType → List ℕ
end_json listed reference k =
    codes ",\"may_come_in\":" ++ flag_json (may_come_in k)
    ++ codes ",\"may_be_deleted\":" ++ flag_json (all_states is_stale k)
    ++ codes ",\"old_in\":" ++ array_json roll_json (rolls_of Old reference listed)
    ++ codes ",\"new_in\":" ++ array_json roll_json (rolls_of New reference listed) ++ codes "}"

-- a key at its reference
abbrev pub key_json : List Listing → List ℕ × KeyParts → List ℕ
key_json listed e = front_json e.0 e.1 ++ end_json listed e.0 e.1.keytype
