-- The index of the tags in use.
use Rattle.std.specs.Prelude.{ℕ, Bool, Option}
use Rattle.std.specs.Option.{option_map}
use Rattle.dnssec_zone.specs.Inner.Bits.{is_set}
use Rattle.dnssec_zone.specs.declared.index.TagIndex.{TagIndex}

-- whether a tag is in use; nothing if there is no index
abbrev pub has : TagIndex → ℕ → Option Bool
has index t = option_map (λ tags. is_set tags.value t) index.tags
