-- The keys of a zone by their public references (RFC 6781, section 3.1: the keys of a zone).
use Rattle.std.specs.Ordering.{nat_cmp}
use Rattle.std.specs.Cmp.Lexicographic.{slice_cmp}
use Rattle.std.specs.FinMap.{FinMap, code, values, entries, get, from_entries}
use Rattle.std.specs.Coded.{Coded, coded_list, coded_ℕ}
use Rattle.std.specs.Prelude.{Bool, ℕ, List, nat_eq, ◌≡◌, Some, map, string_bytes}
use Rattle.std.specs.List.{list_any}
use Rattle.std.specs.declared.string.String.{String}
use Rattle.std.specs.HashMap.{HashMap}
use Rattle.dnssec_key.specs.Key.{KeyParts}

-- the keys by the bytes of their references
abbrev pub Keys : Type 0
Keys = FinMap (slice_cmp nat_cmp) KeyParts

-- how the keys are stored, given how one key is
abbrev pub keys_code : Coded KeyParts → Coded Keys
keys_code c = code (coded_list coded_ℕ) c

-- some key passes
abbrev pub some_key : (KeyParts → Bool) → Keys → Bool
some_key p keys = list_any p (values keys)

-- some key passes, read with its reference
abbrev pub some_entry : (List ℕ → KeyParts → Bool) → Keys → Bool
some_entry p keys = list_any (λ e. p e.0 e.1) (entries keys)

-- ---- tags

-- some key has the tag; here no two keys may share one (RFC 4034, appendix B, lets them)
abbrev pub has_tag : ℕ → Keys → Bool
has_tag tag = some_key (λ k. nat_eq k.key_tag tag)

-- no two keys have one tag (RFC 4034, appendix B)
abbrev pub TagsApart : Keys → Type 0
TagsApart keys = (q r : List ℕ) (k l : KeyParts) →
    get keys q ≡ Some k → get keys r ≡ Some l → k.key_tag ≡ l.key_tag → q ≡ r

-- ---- the hash map that has them

module _ {Y S : Type 0} where
  -- the keys of a hash map, each with the bytes of its reference
  abbrev pub entries_by_bytes : HashMap (String Y) KeyParts S → List (List ℕ × KeyParts)
  entries_by_bytes m = map (λ e. (string_bytes e.0, e.1)) m.entries

  -- the keys of a hash map, in the order of their references
  abbrev pub keys_in_map : HashMap (String Y) KeyParts S → Keys
  keys_in_map m = from_entries (entries_by_bytes m)
