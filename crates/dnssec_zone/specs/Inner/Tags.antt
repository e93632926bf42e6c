-- Sets of key tags: the tags in use, and those of listed keys.
use Rattle.std.specs.Prelude.{◌≡◌, ℕ, Bool, Option, Some, List, IfSome}
use Rattle.std.specs.FinMap.{get}
use Rattle.dnssec_key.specs.Key.{KeyParts}
use Rattle.dnssec_zone.specs.Inner.Bits.{is_set}
use Rattle.dnssec_zone.specs.Keys.{Keys, TagsApart, has_tag}

-- what an index says of a tag is whether some key has it, and no two keys have one tag
pub record TagsAgree (has : ℕ → Option Bool) (keys : Keys) : Type 0 where
  pub says : (t : ℕ) → IfSome (has t) (λ b. b ≡ has_tag t keys)
  pub apart : TagsApart keys

-- a set of tags has those of the keys that are listed
abbrev pub HasListed : List ℕ → Keys → (List ℕ → Bool) → Type 0
HasListed tags keys listed =
    (q : List ℕ) (k : KeyParts) → get keys q ≡ Some k → is_set tags k.key_tag ≡ listed q
