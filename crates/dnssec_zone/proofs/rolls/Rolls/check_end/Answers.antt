-- A roll may end in its last phase.
use Rattle.std.proofs.Common.{rules}
use Rattle.dnssec_zone.proofs.rolls.Rolls.check_end.Goals as goal

pub returns-in-Some-Done : goal.returns-in-Some-Done
returns-in-Some-Done c = search rules
