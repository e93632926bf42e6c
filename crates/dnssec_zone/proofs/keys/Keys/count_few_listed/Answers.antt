-- Each turn counts one more of the listed keys, if it serves and stood nowhere before.
use Rattle.std.proofs.Common.{◌+◌, arith, sym, ap, ◌∙◌}
use Rattle.dnssec_zone.specs.{Inner.Counts.bit, Start.serves_as_kept}
use Rattle.dnssec_zone.proofs.Counted.{count-listed, from_bool-bit, none_listed}
use Rattle.dnssec_zone.proofs.{Marks.listed_more}
use Rattle.dnssec_zone.proofs.keys.Keys.count_few_listed.Goals as goal

pub loop-i-init : goal.loop-i-init
loop-i-init c = (omega arith, sym (none_listed (serves_as_kept c.args.want) c.args.self.now))

pub loop-i-preserved : goal.loop-i-preserved
loop-i-preserved c =
    let l = c.loop-i in
    let one = c.from-count.ensures ∙ from_bool-bit c.serves_but_for.result in (
      grind (arith, l.invariant.0, one),
      ap (λ n. l.count + n) one ∙ (λ j. l.invariant.1 j + bit (c.serves_but_for.ensures j))
          ∙ sym (count-listed (serves_as_kept c.args.want) _ _ _ c.args.self.now
          (λ q. listed_more c.args.old.now l.i _ q c.loop-i-test.true)),
    )
