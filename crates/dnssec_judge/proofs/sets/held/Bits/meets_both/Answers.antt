-- The first words have a bit in common, or others have.
use Rattle.dnssec_judge.proofs.Base.{◌-◌, arith, bit_and, nat_tests, suc, true, true≢false}
use Rattle.dnssec_judge.proofs.Words.{all_met, word-of}
use Rattle.dnssec_judge.specs.Bits.{words_of}
use Rattle.std.proofs.lemmas.Nat.{and_le_l}
use Rattle.dnssec_judge.proofs.sets.held.Bits.meets_both.Goals as goal

pub returns-then-self-one-ne0 : goal.returns-then-self-one-ne0
returns-then-self-one-ne0 c =
    let a = c.args.self.now in let b = c.args.one.now in let d = c.args.other.now in
    let le = and_le_l a.first b.first in let less = and_le_l (bit_and a.first b.first) d.first in
    all_met (words_of a) (words_of b) (words_of d) true
    (λ _. (0, (omega (arith, c.if-self-one-ne0.true), omega (arith, le, less))))
    (λ e. absurd (true≢false e))

pub returns : goal.returns
returns c =
    let met = rw (c.rest.ensures, c.rest-2.ensures, c.rest-3.ensures) at c.do_all_meet.ensures in
    all_met (words_of c.args.self.now) (words_of c.args.one.now) (words_of c.args.other.now) _
    (λ e. (let some = met.yes e in (suc some.0, some.1)))
    (λ e i. grind (arith, nat_tests, word-of, met.no e (i - 1), c.if-self-one-ne0.false))
