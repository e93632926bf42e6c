-- There is neither a key nor an entry.
use Rattle.std.proofs.Common.{◌≡◌, None, Some, sym, ◌∙◌}
use Rattle.std.specs.{FinMap.get-empty, Ordering.nat_cmp, Cmp.Lexicographic.slice_cmp}
use Rattle.dnssec_key.specs.Key.{KeyParts}
use Rattle.dnssec_keyset.proofs.set.KeySet.new.Goals as goal

pub invariant_of-result : goal.invariant_of-result
invariant_of-result c = rw (c.new.ensures, c.new-3.ensures) record {
  apart = λ q r k l found also same.
      let there : None ≡ Some k =
      sym (get-empty {X = KeyParts} (slice_cmp nat_cmp) q) ∙ found in cc;
  there = tt;
}
