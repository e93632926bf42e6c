-- Reports count the TTL of DNSKEY sets too.
use Rattle.dnssec_policy.proofs.Keepers.{kept-sign, serves-keepers}
use Rattle.dnssec_policy.proofs.laws.automatic_runs_serve_keepers.Goals as goal

pub returns-clause-chain : goal.returns-clause-chain
returns-clause-chain c = serves-keepers

pub returns-clause-sign : goal.returns-clause-sign
returns-clause-sign c = kept-sign
