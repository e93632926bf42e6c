use Rattle.std.proofs.{Common.arith, lemmas.Grind.common_steps}
use Rattle.dnssec_base.proofs.name.draft.Draft.push.Goals as goal

pub returns-then-self-gt-MAX_NAME-clause-limit : goal.returns-then-self-gt-MAX_NAME-clause-limit
returns-then-self-gt-MAX_NAME-clause-limit c = grind (arith, common_steps)

pub invariant_of-self : goal.invariant_of-self
invariant_of-self c = grind (arith, common_steps)
