-- Each turn counts one more of the listed keys, if it serves and stood nowhere before.
use Rattle.std.proofs.Common.{◌+◌, refl, rules, arith, sym, ap, ◌∙◌, take}
use Rattle.dnssec_zone.specs.{Inner.Counts.bit, Start.serves_as_kept, Start.texts, Start.is_listed}
use Rattle.dnssec_zone.proofs.Counted.{count-listed, from_bool-bit, none_listed}
use Rattle.dnssec_zone.proofs.Marks.{first-listed, listed_more}
use Rattle.dnssec_zone.proofs.BitWords.{zeros}
use Rattle.dnssec_zone.proofs.keys.Keys.count_many_listed.Goals as goal

pub loop-reference-init : goal.loop-reference-init
loop-reference-init c = (
  omega arith,
  sym (none_listed (serves_as_kept c.args.want) c.args.self.now),
  refl,
  λ q k at. zeros 1024 k.key_tag,
)

pub loop-reference-preserved : goal.loop-reference-preserved
loop-reference-preserved c =
    let l = c.loop-reference in
    let p = serves_as_kept c.args.want in
    let first = c.serves_first.ensures ∙ first-listed p c.args.self.now l.earlier
    (is_listed (texts (take l.reference-index c.args.old.now))) _ l.invariant.3 in
    let one = c.from-count.ensures ∙ from_bool-bit c.serves_first.result in (
      grind (arith, l.invariant.0, one),
      ap (λ n. l.count + n) one ∙ (λ j. l.invariant.1 j + bit (first j))
          ∙ sym (count-listed p _ _ _ c.args.self.now
          (λ q. listed_more c.args.old.now l.reference-index _ q c.loop-reference-test.true)),
      search rules,
      λ q k at. c.add_tag.ensures.listed _ l.invariant.3 q k at ∙ sym (listed_more
          c.args.old.now l.reference-index _ q c.loop-reference-test.true),
    )
