use Rattle.std.proofs.{Common.arith, lemmas.Grind.common_steps}
use Rattle.dnssec_network.proofs.text.reports.push_lines.Goals as goal

pub loop-roll-preserved : goal.loop-roll-preserved
loop-roll-preserved c = grind (arith, common_steps)
