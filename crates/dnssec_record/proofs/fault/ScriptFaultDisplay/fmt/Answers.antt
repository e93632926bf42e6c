use Rattle.dnssec_record.proofs.fault.ScriptFaultDisplay.fmt.Goals as goal

pub returns-in-Malformed-clause-writes : goal.returns-in-Malformed-clause-writes
returns-in-Malformed-clause-writes g c = rw c.in-Malformed.is c.write.ensures.writes
