-- A number is free, and the others stay as they are.
use Rattle.std.proofs.{Common.arith, lemmas.Bool.Decides.nat_tests, lemmas.Grind.elements}
use Rattle.dnssec_judge.proofs.sets.adds.Table.give_back.Goals as goal

pub returns-then-number-len-clause-table : goal.returns-then-number-len-clause-table
returns-then-number-len-clause-table c t = record {
  apart = λ m n. grind (arith, nat_tests, elements, t.apart m n);
  known = λ n. grind (arith, nat_tests, elements, t.known n);
}
