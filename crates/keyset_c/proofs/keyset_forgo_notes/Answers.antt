-- What the session keeps is as it was, without notes and moments.
use Rattle.std.proofs.Common.{Some, ap}
use Rattle.keyset_c.proofs.keyset_forgo_notes.Goals as goal

pub returns-in-Some-clause-forgone : goal.returns-in-Some-clause-forgone
returns-in-Some-clause-forgone c = λ _. record {
  before = c.in-Some.kept.now;
  is_before = c.in-Some.ensures.value;
  is_after = ap Some c.forgo_notes.ensures;
}
