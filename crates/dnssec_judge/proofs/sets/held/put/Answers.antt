-- The bit is written in the word.
use Rattle.dnssec_judge.proofs.Words.{bit-cleared, bit-set, word-of}
use Rattle.std.proofs.{Common.arith, lemmas.Bool.Decides.nat_tests}
use Rattle.dnssec_judge.proofs.sets.held.put.Goals as goal

pub returns-then-is_in : goal.returns-then-is_in
returns-then-is_in c n rest =
    let word = c.args.first in let m = c.args.number in let lt = c.requires in
    grind (arith, nat_tests, word-of, c.if-is_in.true, bit-set word m n lt, lt)

pub returns-else-is_in : goal.returns-else-is_in
returns-else-is_in c n rest =
    let word = c.args.first in let m = c.args.number in let lt = c.requires in
    grind (arith, nat_tests, word-of, c.if-is_in.false, bit-cleared word m n lt, lt)
