-- No number so far was free.
use Rattle.dnssec_judge.proofs.Base.{◌≡◌, vec_len}
use Rattle.dnssec_judge.proofs.sets.adds.Table.place.Given as goal

abbrev pub invariant-loop-free : goal.invariant-loop-free
invariant-loop-free l = l.number ≡ vec_len l.self.adds
