use Rattle.std.proofs.Common.{rules}
use Rattle.dnssec_base.proofs.error.ErrorDisplay.fmt.Goals as goal

pub returns-in-KeyNotFound-clause-writes : goal.returns-in-KeyNotFound-clause-writes
returns-in-KeyNotFound-clause-writes g c = search rules
