-- No keys: no tags, and nothing to count.
use Rattle.std.proofs.Common.{◌≡◌, None, Some, rules, sym, arith, ◌∙◌}
use Rattle.std.specs.FinMap.{get}
use Rattle.dnssec_zone.specs.Keys.{keys_in_map}
use Rattle.dnssec_zone.proofs.{Counted.counts-none, Counted.all_shown, Walks.shown}
use Rattle.dnssec_zone.proofs.keys.Keys.new.Goals as goal

pub invariant_of-result : goal.invariant_of-result
invariant_of-result c = (
  record {
    says = λ t. rw (c.none.ensures.tags t) tt;
    apart = λ q r k l e d same.
        let none : get (keys_in_map c.new.result) q ≡ None = search (rules, shown) in
        let there : None ≡ Some k = sym none ∙ e in cc;
  },
  rw c.none.ensures.counts (counts-none (keys_in_map c.new.result) (λ q. search (rules, shown))),
  c.none.ensures.waits _,
  omega (arith, all_shown c.new.result c.new.ensures.unique, c.new.ensures.len),
)
