-- The index has the tags of the keys so far.
use Rattle.std.proofs.Common.{◌≡◌, ℕ, Some, nat_eq, ◌||◌}
use Rattle.std.specs.{List.list_any, HashMap.values, Option.option_map}
use Rattle.dnssec_zone.specs.Inner.TagIndex.{has}
use Rattle.dnssec_zone.proofs.derived.index_of.Given as goal

-- what the index has, and what the keys have that are left, is what all have
abbrev pub invariant-loop-key : goal.invariant-loop-key
invariant-loop-key l = (t : ℕ) →
    option_map (λ b. b || list_any (λ k. nat_eq k.key_tag t) l.key-iterator) (has l.index t)
    ≡ Some (list_any (λ k. nat_eq k.key_tag t) (values l.keys))
