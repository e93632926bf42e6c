-- The listings of the key stand between those of lesser references and those of greater ones.
use Rattle.std.proofs.Common.{Bor, List, ap, drop, rules, string_bytes, subst, sym, take, ◌∙◌, ◌≡◌}
use Rattle.std.proofs.Common.{true, false}
use Rattle.std.proofs.lemmas.List.{take_rest}
use Rattle.std.proofs.lemmas.List.Sorted.{IsPartitionPoint-from_clause}
use Rattle.std.specs.Cmp.Lexicographic.{slice_cmp}
use Rattle.std.specs.List.{list_any}
use Rattle.std.specs.List.Sorted.{IsPartitionPoint, IsPartitionedBy}
use Rattle.std.specs.Ordering.{is_le, is_lt, nat_cmp}
use Rattle.dnssec_record.specs.declared.courses.Listing as code
use Rattle.dnssec_status.proofs.Listing.{between, of_no_other, parted_le, parted_lt}
use Rattle.dnssec_status.specs.Inner.Entries.{listing_of, lists, reference_of}
use Rattle.dnssec_status.specs.Keys.{has_listed}
use Rattle.dnssec_zone.proofs.Quantified.{list_any-map}
use Rattle.dnssec_zone.specs.{Lists.same_part, Rolls.same_roll}
use Rattle.dnssec_status.proofs.listed.Listings.of_key.Goals as goal

abbrev Lent : Type 0
Lent = List (Bor code.Listing)

pub returns : goal.returns
returns c roll part =
    let xs : Lent = c.self.inside.ordered.items in
    let q = string_bytes c.args.reference.now in
    let end = c.partition_point-end.result in
    let begin = c.partition_point-begin.result in
    let le = λ (x : Bor code.Listing). is_le (slice_cmp nat_cmp (reference_of x) q) in
    let lt = λ (x : Bor code.Listing). is_lt (slice_cmp nat_cmp (reference_of x) q) in
    let after : IsPartitionPoint (λ x. le x ≡ true) (λ x. le x ≡ false) xs end =
    subst (λ (ls : Lent). IsPartitionPoint (λ x. le x ≡ true) (λ x. le x ≡ false) ls end)
    c.deref.ensures.value
    (IsPartitionPoint-from_clause le c.deref.result.now end
    c.partition_point-end.ensures.partitioned
    (subst (IsPartitionedBy le) (sym c.deref.ensures.value)
    (parted_le reference_of q xs c.self.invariant))
    (λ a r f k. (search rules, search rules))) in
    let before : IsPartitionPoint (λ x. lt x ≡ true) (λ x. lt x ≡ false) (take end xs) begin =
    subst (λ (ls : Lent). IsPartitionPoint (λ x. lt x ≡ true) (λ x. lt x ≡ false) (take end ls)
    begin) c.deref-2.ensures.value
    (IsPartitionPoint-from_clause lt (take end c.deref-2.result.now) begin
    c.partition_point-begin.ensures.partitioned
    (subst (λ (ls : Lent). IsPartitionedBy lt (take end ls)) (sym c.deref-2.ensures.value)
    (parted_lt reference_of q xs end c.self.invariant))
    (λ a r f k. (search rules, search rules))) in
    ap (list_any (lists roll part q)) (take_rest (take end c.deref-2.result.now) begin)
    ∙ ap (λ (ls : Lent). list_any (lists roll part q) (drop begin (take end ls)))
    c.deref-2.ensures.value
    ∙ between reference_of q (lists roll part q)
    (λ x apart. of_no_other (same_roll roll x.now.roll) (same_part part x.now.part) _ apart)
    xs begin end after before
    ∙ sym (list_any-map (has_listed roll part q) listing_of xs)
    ∙ ap (list_any (has_listed roll part q)) c.self.view_is
