use Rattle.std.proofs.{Common.arith, lemmas.Grind.elements}
use Rattle.dnssec_base.proofs.name.Name+Vec+u8.try_clone.Goals as goal

pub returns-clause-ok : goal.returns-clause-ok
returns-clause-ok c = grind (arith, elements)
