-- The four published lists, and which of them have a key.
use Rattle.std.specs.Prelude.{Bool, true, false, ◌&&◌, ◌||◌, not, if◌then◌else◌, Option, None, Some}
use Rattle.std.specs.Option.{option_map_or}
use Rattle.dnssec_key.specs.{declared.kind.KeyType.KeyType, Key.KeyParts}
use Rattle.dnssec_run.specs.{ByList.ByList, declared.lists.Shown.Shown}
use Rattle.dnssec_run.specs.declared.lists.Shown.TheVariants.{Ds, Dnskey, DnskeySigners}
use Rattle.dnssec_run.specs.declared.lists.Shown.TheVariants.{ZoneSigners}
use Rattle.dnssec_run.specs.Published.{in_ds, in_dnskey, signs_dnskey, signs_zone}

-- the keys that a list has
abbrev pub shows : Shown → KeyType → Bool
shows Ds = in_ds
shows Dnskey = in_dnskey
shows DnskeySigners = signs_dnskey
shows ZoneSigners = signs_zone

-- the key is there and passes
abbrev pub passing : (KeyType → Bool) → Option KeyParts → Bool
passing passes key = option_map_or (λ (k : KeyParts). passes k.keytype) key false

-- what is said of a list
abbrev pub at_list : ByList → Shown → Bool
at_list lists Ds = lists.ds
at_list lists Dnskey = lists.dnskey
at_list lists DnskeySigners = lists.dnskey_signers
at_list lists ZoneSigners = lists.zone_signers

-- the same of all lists
abbrev pub all_say : Bool → ByList
all_say b = record { ds = b; dnskey = b; dnskey_signers = b; zone_signers = b }

abbrev pub no_list : ByList
no_list = all_say false

-- some list
abbrev pub any_list : ByList → Bool
any_list lists = lists.ds || lists.dnskey || lists.dnskey_signers || lists.zone_signers

-- the lists that have a key of this kind
abbrev pub lists_of : KeyType → ByList
lists_of k = record {
  ds = in_ds k;
  dnskey = in_dnskey k;
  dnskey_signers = signs_dnskey k;
  zone_signers = signs_zone k;
}

-- those that have this key, if it is there
abbrev pub lists_with : Option KeyParts → ByList
lists_with key = record {
  ds = passing in_ds key;
  dnskey = passing in_dnskey key;
  dnskey_signers = passing signs_dnskey key;
  zone_signers = passing signs_zone key;
}

-- those that have it if all do, or none; or else those that have it by its flags
abbrev pub lists_said : Option Bool → Option KeyParts → ByList
lists_said None key = lists_with key
lists_said (Some b) key = all_say b

-- yes of the lists that one of the two says yes of
abbrev pub either : ByList → ByList → ByList
either a b = record {
  ds = a.ds || b.ds;
  dnskey = a.dnskey || b.dnskey;
  dnskey_signers = a.dnskey_signers || b.dnskey_signers;
  zone_signers = a.zone_signers || b.zone_signers;
}

-- what one says of the lists that are touched, and another of all others
abbrev pub choose : ByList → ByList → ByList → ByList
choose touched is was = record {
  ds = if touched.ds then is.ds else was.ds;
  dnskey = if touched.dnskey then is.dnskey else was.dnskey;
  dnskey_signers = if touched.dnskey_signers then is.dnskey_signers else was.dnskey_signers;
  zone_signers = if touched.zone_signers then is.zone_signers else was.zone_signers;
}

abbrev pub same_said : Bool → Bool → Bool
same_said true b = b
same_said false b = not b

-- the same of each list
abbrev pub same_lists : ByList → ByList → Bool
same_lists a b = same_said a.ds b.ds && same_said a.dnskey b.dnskey
    && same_said a.dnskey_signers b.dnskey_signers && same_said a.zone_signers b.zone_signers
