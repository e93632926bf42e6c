use Rattle.std.proofs.Common.{rules}
use Rattle.dnssec_base.proofs.name.error.NameErrorDisplay.fmt.Goals as goal

pub returns-clause-writes : goal.returns-clause-writes
returns-clause-writes g c = search rules
