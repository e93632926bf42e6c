-- The old keys are listed, then the new ones.
use Rattle.std.proofs.Common.{rules}
use Rattle.dnssec_zone.proofs.rolls.Lists.start.Goals as goal

pub returns : goal.returns
returns c = search rules
