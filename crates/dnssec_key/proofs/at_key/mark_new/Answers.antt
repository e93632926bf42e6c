use Rattle.std.proofs.Common.{rules}
use Rattle.dnssec_key.proofs.at_key.mark_new.Goals as goal

pub returns-then-column : goal.returns-then-column
returns-then-column c = search rules
