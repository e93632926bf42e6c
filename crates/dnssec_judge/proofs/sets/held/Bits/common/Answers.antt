-- A bit is in both if it is in their words.
use Rattle.dnssec_judge.proofs.Base.{◌-◌, ◌/◌, arith, bit_at-lt, bit_at_and, get_or_past, nat_tests}
use Rattle.dnssec_judge.proofs.Words.{word-of}
use Rattle.dnssec_judge.proofs.sets.held.Bits.common.Goals as goal

pub returns : goal.returns
returns c n =
    let rest = c.loop-index.invariant.1 (n / 64 - 1) in let past = c.loop-index-test.false in
    let made = c.in_ok-from_vec.ensures in
    grind (arith, nat_tests, word-of, rest, bit_at-lt, bit_at_and, get_or_past, made, past)

pub returns-then-is_none : goal.returns-then-is_none
returns-then-is_none c n =
    let none = c.is_none.ensures in let is = c.if-is_none.true in
    grind (arith, nat_tests, word-of, bit_at-lt, bit_at_and, get_or_past, none, is)
