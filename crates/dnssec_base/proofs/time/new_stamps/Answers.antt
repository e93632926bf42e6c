use Rattle.std.proofs.Common.{rules}
use Rattle.dnssec_base.proofs.time.new_stamps.Goals as goal

pub returns : goal.returns
returns c = search rules
