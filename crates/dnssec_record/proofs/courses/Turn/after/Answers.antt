use Rattle.std.proofs.Common.{ap, sym}
use Rattle.dnssec_record.specs.Courses.{turn_after}
use Rattle.dnssec_record.proofs.courses.Turn.after.Goals as goal

pub returns-in-Refused : goal.returns-in-Refused
returns-in-Refused c = ap (turn_after c.args.self) (sym c.in-Refused.is)
