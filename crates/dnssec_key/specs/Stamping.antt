-- Which stamps an event writes on a key (RFC 7583, section 3).
use Rattle.std.specs.Prelude.{ℕ, Bool, if◌then◌else◌, Some}
use Rattle.dnssec_base.specs.Stamps.{Stamps}
use Rattle.dnssec_key.specs.declared.kind.KeyType.{KeyType}
use Rattle.dnssec_key.specs.Key.{no_key}

-- which stamps an event writes: each on the keys that pass
pub record Writes : Type 0 where
  pub published : KeyType → Bool
  pub visible : KeyType → Bool
  pub ds_visible : KeyType → Bool
  pub rrsig_visible : KeyType → Bool
  pub withdrawn : KeyType → Bool

-- no stamp, on no key
abbrev pub writes_nothing : Writes
writes_nothing = record {
  published = no_key;
  visible = no_key;
  ds_visible = no_key;
  rrsig_visible = no_key;
  withdrawn = no_key;
}

-- the stamps of a key of this kind after an event at now; what isn't written stays as it was
abbrev pub stamps_after : Writes → KeyType → ℕ → Stamps → Stamps
stamps_after writes kind now t = record {
  creation = t.creation;
  published = if writes.published kind then Some now else t.published;
  visible = if writes.visible kind then Some now else t.visible;
  ds_visible = if writes.ds_visible kind then Some now else t.ds_visible;
  rrsig_visible = if writes.rrsig_visible kind then Some now else t.rrsig_visible;
  withdrawn = if writes.withdrawn kind then Some now else t.withdrawn;
}
