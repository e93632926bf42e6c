-- A start of an algorithm roll before each roll of KSKs or CSKs makes a list plain.
use Rattle.dnssec_run.proofs.Starts.{starts-suffice}
use Rattle.dnssec_run.proofs.plain.starts_suffice.Goals as goal

pub returns : goal.returns
returns c = λ name calls entries run plain. starts-suffice run plain.no_early_end plain
