-- Sorting leaves the listings the same.
use Rattle.std.proofs.Common.{Bor, ap, map, rules, subst, sym, ◌∙◌}
use Rattle.std.proofs.lemmas.{Fn.always_returns_same, List.Sorted.IsPermutation-map}
use Rattle.std.proofs.lemmas.List.Sorted.{ranks_by}
use Rattle.std.specs.Cmp.Lexicographic.{nat_list_cmp_total, slice_cmp}
use Rattle.std.specs.Ordering.{is_lt, nat_cmp}
use Rattle.std.specs.Prelude.{IsPermutation}
use Rattle.dnssec_record.specs.Courses.{as_listed}
use Rattle.dnssec_record.specs.declared.courses.Listing as code
use Rattle.dnssec_status.specs.Inner.Entries.{listing_of, reference_of}
use denote.Bor.{now}
use mathlib.Core.List.{map-map}
use Rattle.dnssec_status.proofs.listed.Listings.of.Goals as goal

pub returns : goal.returns
returns c =
    let lent = c.in_ok-ordered.ordered.items in
    let read = sym (map-map as_listed now lent) ∙ ap (map as_listed) c.in_ok-ordered.ensures in
    subst (λ ls. IsPermutation ls (map listing_of c.sort_unstable_by.new.self.items)) read
    (IsPermutation-map listing_of lent _ c.sort_unstable_by.ensures.permutation)

pub invariant_of-result : goal.invariant_of-result
invariant_of-result c = c.sort_unstable_by.ensures.sorted
    (λ (x y : Bor code.Listing). is_lt (slice_cmp nat_cmp (reference_of x) (reference_of y)))
    (ranks_by nat_list_cmp_total reference_of)
    (always_returns_same _ _ _ (λ a r f k. (search rules, search rules)))
