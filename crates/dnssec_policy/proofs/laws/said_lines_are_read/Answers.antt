-- The line of a call that is said is read as that call, also after the lines of its script.
use Rattle.dnssec_policy.proofs.Lines.{are-read, goes-on, names}
use Rattle.dnssec_policy.proofs.laws.said_lines_are_read.Goals as goal

pub returns-clause-lines : goal.returns-clause-lines
returns-clause-lines c = are-read

pub returns-clause-keys : goal.returns-clause-keys
returns-clause-keys c = names

pub returns-clause-script : goal.returns-clause-script
returns-clause-script c = goes-on
