-- An entry is refused by the tags of those before it, as it is by their references.
use Rattle.std.proofs.Common.{◌≡◌, refl, rules, arith, sym, ap, ◌∙◌, length, take, false}
use Rattle.dnssec_zone.proofs.Marks.{any-more, fault-from, listed_more, new-fault, old-fault}
use Rattle.dnssec_zone.proofs.Marks.{or_joined}
use Rattle.std.proofs.{Math.Seq.take-length, Math.Bool.or-false}
use Rattle.std.specs.{Prelude.◌||◌, Prelude.nat_eq, Option.option_map_or}
use Rattle.dnssec_key.specs.Key.{KeyParts}
use Rattle.dnssec_zone.specs.Inner.Bits.{is_set}
use Rattle.dnssec_zone.specs.Start.{texts, is_listed, serves_as_new}
use Rattle.dnssec_zone.proofs.BitWords.{zeros}
use Rattle.dnssec_zone.proofs.keys.Keys.check_many_new.Goals as goal

pub loop-entry-init : goal.loop-entry-init
loop-entry-init c = (refl, λ q k at. zeros 1024 k.key_tag)

pub loop-entry-preserved : goal.loop-entry-preserved
loop-entry-preserved c = (
  search rules,
  λ q k at. c.add_tag.ensures.listed _ c.loop-entry.invariant.1 q k at ∙ sym (listed_more
      c.args.old.now c.loop-entry.entry-index _ q c.loop-entry-test.true),
)

pub loop-reference-init : goal.loop-reference-init
loop-reference-init c =
    let rs = c.args.old.now in
    let i = c.loop-entry.entry-index in
    let end : i ≡ length rs =
    omega (arith, c.loop-entry.auto.entry-index-end, c.loop-entry-test.false) in
    let all : take i rs ≡ rs = ap (λ i. take i rs) end ∙ take-length rs in (
      refl,
      c.loop-entry.invariant.0,
      λ q k at. c.loop-entry.invariant.1 q k at ∙ ap (λ rs. is_listed (texts rs) q) all
          ∙ sym (or-false (is_listed (texts rs) q)),
      zeros 4,
      λ w. grind arith,
    )

pub returns-in_err-key-clause-fault : goal.returns-in_err-key-clause-fault
returns-in_err-key-clause-fault c =
    let l = c.loop-reference in
    rw (fault-from _ _ _ c.args.new.now l.reference-index _ c.loop-reference-test.true _ _
    l.invariant.0 (old-fault c.args.roll _ _ _ c.in_err-key.ensures.fault)) (search rules)

pub returns-in_err-add-clause-fault : goal.returns-in_err-add-clause-fault
returns-in_err-add-clause-fault c =
    let l = c.loop-reference in
    let here = c.in_ok-key.ensures in
    rw (fault-from _ _ _ c.args.new.now l.reference-index _ c.loop-reference-test.true _ _
    l.invariant.0 (new-fault c.args.roll _ c.in_ok-key.key.now _ _ here.sound here.key
    (c.is_set.ensures ∙ ap (is_set l.taken) c.key_tag.ensures
    ∙ l.invariant.2 _ c.in_ok-key.key.now here.key) ∙ c.in_err-add.ensures.fault)) (search rules)

pub loop-reference-preserved : goal.loop-reference-preserved
loop-reference-preserved c =
    let l = c.loop-reference in
    let i = l.reference-index in
    let here = c.in_ok-key.ensures in (
      sym (fault-from _ _ _ c.args.new.now i _ c.loop-reference-test.true _ _ l.invariant.0
          (new-fault c.args.roll _ c.in_ok-key.key.now _ _ here.sound here.key
          (c.is_set.ensures ∙ ap (is_set l.taken) c.key_tag.ensures
          ∙ l.invariant.2 _ c.in_ok-key.key.now here.key) ∙ c.in_ok-add.ensures.sound)),
      search rules,
      λ q k at. c.add_tag-in-loop-reference.ensures.listed _ l.invariant.2 q k at
          ∙ or_joined (is_listed (texts c.args.old.now) q) _ _
          ∙ ap (λ b. is_listed (texts c.args.old.now) q || b) (sym (listed_more
          c.args.new.now i _ q c.loop-reference-test.true)),
      λ a. c.in_ok-add.ensures.algorithms a ∙ (λ j. l.invariant.3 a j || option_map_or
          (λ (k : KeyParts). nat_eq k.algorithm a) (sym here.key j) false)
          ∙ sym (any-more _ c.args.new.now i _ c.loop-reference-test.true),
      λ w. c.in_ok-add.ensures.kinds w ∙ (λ j. l.invariant.4 w j || option_map_or
          (λ (k : KeyParts). serves_as_new w k.keytype) (sym here.key j) false)
          ∙ sym (any-more _ c.args.new.now i _ c.loop-reference-test.true),
    )
