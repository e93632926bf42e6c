-- Both theorems of the chain, of one record.
use Rattle.dnssec_run.proofs.Chain.Trust.{chain-holds, each-holds}
use Rattle.dnssec_run.proofs.plain.whole_runs_stay_safe.Goals as goal

pub returns : goal.returns
returns c = λ name calls entries run plain keeps n le. (
  chain-holds name calls entries run plain n le,
  each-holds name calls entries run plain keeps n le,
)
