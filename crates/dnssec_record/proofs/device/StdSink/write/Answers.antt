use Rattle.std.proofs.Common.{rules}
use Rattle.dnssec_record.proofs.device.StdSink.write.Goals as goal

pub returns-in-Ok-clause-some : goal.returns-in-Ok-clause-some
returns-in-Ok-clause-some g c = search rules
