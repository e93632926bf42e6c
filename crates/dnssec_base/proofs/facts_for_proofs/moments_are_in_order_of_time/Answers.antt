use Rattle.std.proofs.Common.{rules}
use Rattle.dnssec_base.proofs.facts_for_proofs.moments_are_in_order_of_time.Goals as goal

pub returns : goal.returns
returns c = search rules
