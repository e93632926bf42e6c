use Rattle.std.proofs.{Common.arith, lemmas.Grind.common_steps}
use Rattle.dnssec_base.proofs.name.piece.split_decimal.Goals as goal

pub returns-clause-some : goal.returns-clause-some
returns-clause-some c = grind (arith, common_steps)
