-- A word that is left as it is has only bits of the other.
use Rattle.dnssec_judge.proofs.Base.{◌%◌, arith, bit_at-lt, bit_at-zero, bit_at_and, get_or_past}
use Rattle.dnssec_judge.proofs.Base.{nat_tests}
use Rattle.dnssec_judge.proofs.Words.{word-of}
use Rattle.dnssec_judge.proofs.sets.held.Bits.is_within.Goals as goal

pub returns-then-is_none : goal.returns-then-is_none
returns-then-is_none c kept n b =
    let both = bit_at_and c.args.self.now.first c.args.other.now.first (n % 64) in
    let none = c.is_none.ensures in let is = c.if-is_none.true in
    grind (arith, nat_tests, word-of, bit_at-lt, bit_at-zero, get_or_past, none, is, both, kept, b)
