-- A span that came before the position: so did those before it.
use Rattle.dnssec_judge.proofs.Base.{◌∙◌, ◌≡◌, all_in, ap, arith, holds, new_hold, spans_of, suc}
use Rattle.dnssec_judge.proofs.Base.{sym, take}
use Rattle.dnssec_judge.proofs.OneByOne.Pairs.{passed-all, passed-before}
use Rattle.dnssec_judge.proofs.window.Window.hold_with_new.Goals as goal

pub returns-then-other-tested : goal.returns-then-other-tested
returns-then-other-tested c at n tiles =
    let other = c.args.other.now.spans in
    sym (passed-all at n c.args.tested
    (λ p. all_in (spans_of c.args.self.now) (holds c.args.link c.args.is_above p.set))
    other.list.items tiles (rw other.newest_is at c.if-other-tested.true))

pub returns-then-span-tested : goal.returns-then-span-tested
returns-then-span-tested c at n tiles =
    let s = c.index-span.result.now in let i = c.in-Some.before in
    let place : suc i ≡ c.loop-before.place = omega (arith, c.in-Some.ensures) in
    sym (passed-before at n c.args.tested
    (λ p. all_in (spans_of c.args.self.now) (holds c.args.link c.args.is_above p.set))
    (spans_of c.args.other.now) tiles i s (omega (arith, place, c.loop-before.invariant.within))
    (rw (← c.index-span.ensures) c.if-span-tested.true))
    ∙ ap (λ k. new_hold c.args.tested (holds c.args.link c.args.is_above)
    (take k (spans_of c.args.other.now)) (spans_of c.args.self.now)) place
    ∙ c.loop-before.invariant.passed
