-- What the other one keeps stands after the same calls.
use Rattle.keyset_c.proofs.questions.keyset_copy.Goals as goal

pub returns-in-Ok-clause-copied : goal.returns-in-Ok-clause-copied
returns-in-Ok-clause-copied c = λ copied. record {
  kept = c.in-Some.kept.now;
  is = c.in-Some.ensures.value;
  copied = c.in-Ok.made.value;
  is_copy = c.put.ensures.kept;
  stands = c.in-Ok.ensures.stands;
  is_said = c.in-Ok.ensures.answer;
  moments = c.in-Ok.ensures.moments;
  notes = c.in-Ok.ensures.notes;
}
