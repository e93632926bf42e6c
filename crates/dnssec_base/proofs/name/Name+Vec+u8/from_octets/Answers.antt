use Rattle.std.proofs.Common.{rules}
use Rattle.dnssec_base.proofs.name.Name+Vec+u8.from_octets.Goals as goal

pub invariant_of-result : goal.invariant_of-result
invariant_of-result c = search rules
