-- A key that a setter doesn't suit is written back as it was; else one key is changed.
use Rattle.std.proofs.Common.{◌≡◌, ℕ, List, Some, rules, sym, subst, ◌∙◌}
use Rattle.std.specs.{Prelude.if◌then◌else◌, Str.bytes_eq, Option.option_map}
use Rattle.dnssec_key.specs.Setters.{setting_of, set_by}
use Rattle.dnssec_zone.specs.Inner.TagIndex.{has}
use Rattle.dnssec_zone.specs.{Inner.Derived.IsDerived, Keys.keys_in_map}
use Rattle.dnssec_zone.proofs.{Walks.put-changed, Walks.same-written, Walks.shown}
use Rattle.dnssec_zone.proofs.{Counted.counts-set, Counted.countable-exchanged}
use Rattle.dnssec_zone.proofs.{Tags.tags-changed, Tags.kept_set}
use Rattle.std.specs.FinMap as map
use Rattle.dnssec_zone.proofs.keys.Keys.set.Goals as goal

pub invariant_of-self-then-not-suits : goal.invariant_of-self-then-not-suits
invariant_of-self-then-not-suits c =
    let i = c.self.inside in
    let r = c.args.pubref.now in
    let k = c.in-Some.key.now in
    let found : map.get (keys_in_map i.map) r ≡ Some k = search (rules, shown) in
    let same = same-written (keys_in_map i.map) (keys_in_map (c.get_mut.follows.lender k)) r k found
    (λ q. search (rules, shown)) in
    subst (IsDerived i.derived) (sym same) c.self.invariant

pub returns-then-not-suits-clause-err : goal.returns-then-not-suits-clause-err
returns-then-not-suits-clause-err c =
    let i = c.self.inside in
    let r = c.args.pubref.now in
    let k = c.in-Some.key.now in
    let found : map.get (keys_in_map i.map) r ≡ Some k = search (rules, shown) in
    same-written (keys_in_map i.map) (keys_in_map (c.get_mut.follows.lender k)) r k found
    (λ q. search (rules, shown)) ∙ c.self.view_is

pub invariant_of-self-2 : goal.invariant_of-self-2
invariant_of-self-2 c =
    let i = c.self.inside in
    let r = c.args.pubref.now in
    let setting = setting_of c.args.setting.now in
    let f = set_by setting in
    let n = c.get_mut.follows.lender c.set.new.key in
    let k = c.in-Some.key.now in
    let found : map.get (keys_in_map i.map) r ≡ Some k = search (rules, shown) in
    let is : (q : List ℕ) → map.get (keys_in_map n) q
    ≡ option_map (λ k. if bytes_eq r q then f k else k) (map.get (keys_in_map i.map) q) =
    λ q. search (rules, shown) in
    let put = put-changed f (keys_in_map i.map) (keys_in_map n) r k found is in
    let few = countable-exchanged (keys_in_map i.map) (keys_in_map n) r k (f k) found put
    c.self.invariant.3 in
    let tags = tags-changed (keys_in_map i.map) (keys_in_map n) r f (kept_set setting) is
    (has i.derived.tags) c.self.invariant.0 in (
      rw c.set.ensures.tags tags,
      rw c.set.ensures.counts
          (counts-set setting i.derived.counts (keys_in_map i.map) (keys_in_map n) r k found put
          few c.self.invariant.1),
      c.set.ensures.waits (keys_in_map i.map) (keys_in_map n) r found
          (λ q. put q ∙ search rules) c.self.invariant.2,
      few,
    )
