-- What is published of a key set, as lists of keys of a record.
use Rattle.std.specs.Prelude.{◌≡◌, ℕ, Bool, List, map, filter, string_bytes}
use Rattle.std.specs.FinMap.{entries}
use Rattle.dnssec_key.specs.declared.kind.KeyType.{KeyType}
use Rattle.dnssec_key.specs.State.{is_at_parent, is_signer}
use Rattle.dnssec_key.specs.Key.{KeyParts, ksk_role, zsk_role, first_state}
use Rattle.dnssec_keyset.specs.KeySet.{KeySetParts}
use Rattle.dnssec_run.specs.declared.record.Published.{Published}
use Rattle.dnssec_run.specs.declared.record.PublishedKey.{PublishedKey}

-- A key of a record: its reference, and the position of the call that added it. So a reference that
-- is used again after a deletion is another key.
abbrev pub Id : Type 0
Id = List ℕ × ℕ

-- which key a published one is
abbrev pub id_of : PublishedKey → Id
id_of k = (string_bytes k.reference, k.added)

-- ---- which keys are in which set (RFC 4034, sections 2 and 5; RFC 4035, section 2)

-- a KSK role that has to have a DS record at the parent
abbrev pub in_ds : KeyType → Bool
in_ds = ksk_role is_at_parent

-- a key in the DNSKEY set; a CSK is there by its KSK role, and keys of other signers count too
abbrev pub in_dnskey : KeyType → Bool
in_dnskey k = (first_state k).present

-- a KSK role that signs
abbrev pub signs_dnskey : KeyType → Bool
signs_dnskey = ksk_role is_signer

-- a ZSK role that signs
abbrev pub signs_zone : KeyType → Bool
signs_zone = zsk_role is_signer

-- ---- the sets

-- what is there at a position: the key set, and the position of the last accepted add of each
-- reference
pub record World : Type 0 where
  pub set : KeySetParts
  pub added : List ℕ → ℕ

-- the keys that pass, in the order of their references
abbrev pub keys_where : (KeyType → Bool) → World → List Id
keys_where passes w =
    map (λ (e : List ℕ × KeyParts). (e.0, w.added e.0))
    (filter (λ (e : List ℕ × KeyParts). passes e.1.keytype) (entries w.set.keys))

-- these are the sets that are published there
pub record IsPublished (sets : Published) (w : World) : Type 0 where
  pub ds : map id_of sets.ds.items ≡ keys_where in_ds w
  pub dnskey : map id_of sets.dnskey.items ≡ keys_where in_dnskey w
  pub dnskey_signers : map id_of sets.dnskey_signers.items ≡ keys_where signs_dnskey w
  pub zone_signers : map id_of sets.zone_signers.items ≡ keys_where signs_zone w
