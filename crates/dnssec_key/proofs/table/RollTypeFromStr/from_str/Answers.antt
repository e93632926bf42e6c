use Rattle.std.proofs.Common.{rules}
use Rattle.dnssec_key.proofs.table.RollTypeFromStr.from_str.Goals as goal

pub returns-in_default : goal.returns-in_default
returns-in_default c = search rules
