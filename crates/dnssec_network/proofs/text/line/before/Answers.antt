use Rattle.std.proofs.Common.{rules}
use Rattle.dnssec_network.proofs.text.line.before.Goals as goal

pub returns : goal.returns
returns c = search rules
