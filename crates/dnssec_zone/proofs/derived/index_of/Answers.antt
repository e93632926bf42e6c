-- The walk puts in the tag of each key.
use Rattle.std.proofs.Common.{◌≡◌, Some, ap, rules, sym, ◌∙◌}
use Rattle.std.specs.{Prelude.nat_eq, List.list_any, HashMap.values}
use Rattle.dnssec_zone.specs.Inner.TagIndex.{has}
use Rattle.dnssec_zone.proofs.Walks.{some_key-shown}
use Rattle.dnssec_zone.proofs.derived.index_of.Goals as goal

pub returns-clause-ok : goal.returns-clause-ok
returns-clause-ok c = λ t.
    let is : has c.loop-key.index t ≡ Some (list_any (λ k. nat_eq k.key_tag t)
    (values c.args.keys.now)) = search rules in
    is ∙ ap Some (sym (some_key-shown (λ k. nat_eq k.key_tag t) c.args.keys.now
    c.values-key-items.ensures.unique))
