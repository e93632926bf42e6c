use Rattle.std.proofs.Common.{rules}
use Rattle.dnssec_base.proofs.name.wire.split_label.Goals as goal

pub returns-clause-label : goal.returns-clause-label
returns-clause-label c = search rules
