-- It is the report of the first half.
use Rattle.dnssec_keyset.proofs.set.KeySet.propagation1_complete.Goals as goal

pub returns : goal.returns
returns c = c.report.ensures
