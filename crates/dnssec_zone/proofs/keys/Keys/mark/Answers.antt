-- Each turn of the loop marks one more of the listed keys: if no key has the reference, nothing is
-- changed; else one key is, and is counted anew. What is known of waits is dropped.
use Rattle.std.proofs.Common.{◌≡◌, ℕ, List, [], None, Some, rules, refl, arith, Bor, get_or}
use Rattle.std.specs.{Prelude.if◌then◌else◌, Str.bytes_eq, Option.option_map}
use Rattle.std.specs.{Cmp.Lexicographic.bytes_decides}
use Rattle.dnssec_zone.specs.Inner.TagIndex.{has}
use Rattle.dnssec_zone.specs.{Inner.KeyMark.marked, Keys.keys_in_map}
use Rattle.dnssec_zone.specs.Inner.Counts.{with_key, without_key}
use Rattle.dnssec_zone.proofs.{Counted.counts-exchanged, Counted.countable-exchanged, Walks.shown}
use Rattle.dnssec_zone.proofs.{Walks.put-changed, Tags.tags-changed}
use Rattle.dnssec_zone.proofs.{Marks.mark_more, Marks.marked-twice}
use Rattle.std.specs.FinMap as map
use Rattle.dnssec_zone.proofs.keys.Keys.mark.Goals as goal

-- what a list has past its end
abbrev past : Bor (List ℕ)
past = record { ref_ptr = (0, 0); now = [] }

pub loop-reference-preserved : goal.loop-reference-preserved
loop-reference-preserved c =
    let l = c.loop-reference in
    let i = l.self-inside in
    let rs = c.args.references.now in
    let r = (get_or rs l.reference-index past).now in
    let f = marked c.args.mark.now in
    let k = c.in-Some.key.now in
    let found : map.get (keys_in_map i.map) r ≡ Some k = search (rules, shown) in
    let n = c.get_mut.follows.lender c.match-mark.key in
    let is : (q : List ℕ) → map.get (keys_in_map n) q
    ≡ option_map (λ k. if bytes_eq r q then f k else k) (map.get (keys_in_map i.map) q) =
    λ q. search (rules, shown) in
    let counted : c.count-in-loop-reference.new.self
    ≡ with_key (f k).keytype (without_key k.keytype i.derived.counts) = search rules in
    let put = put-changed f (keys_in_map i.map) (keys_in_map n) r k found is in
    let few = countable-exchanged (keys_in_map i.map) (keys_in_map n) r k (f k) found put
    l.invariant.2 in (
      tags-changed (keys_in_map i.map) (keys_in_map n) r f (λ k. grind arith) is
          (has i.derived.tags) l.invariant.0,
      rw counted
          (counts-exchanged i.derived.counts (keys_in_map i.map) (keys_in_map n) r (Some (f k))
          put l.invariant.1 k (f k) found refl few),
      few,
      mark_more f (marked-twice c.args.mark.now) rs l.reference-index _ _ _ _
          c.loop-reference-test.true l.invariant.3 is,
    )

pub loop-reference-preserved-in_default : goal.loop-reference-preserved-in_default
loop-reference-preserved-in_default c =
    let l = c.loop-reference in
    let i = l.self-inside in
    let rs = c.args.references.now in
    let r = (get_or rs l.reference-index past).now in
    let f = marked c.args.mark.now in
    let m = c.get_mut.follows.lender-at-none in
    let same : m ≡ i.map = search rules in
    let none : map.get (keys_in_map i.map) r ≡ None = search (rules, shown) in (
      rw same l.invariant.0,
      rw same l.invariant.1,
      rw same l.invariant.2,
      mark_more f (marked-twice c.args.mark.now) rs l.reference-index past _ (keys_in_map i.map)
          (keys_in_map m) c.loop-reference-test.true l.invariant.3
          (λ q. rw same (grind (arith, bytes_decides, none))),
    )
