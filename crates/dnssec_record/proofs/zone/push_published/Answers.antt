use Rattle.std.proofs.{Common.arith, lemmas.Grind.common_steps}
use Rattle.dnssec_record.proofs.zone.push_published.Goals as goal

pub returns : goal.returns
returns c = grind (arith, common_steps)
