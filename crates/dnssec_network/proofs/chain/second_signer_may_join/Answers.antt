-- A second signer joins.
use Rattle.dnssec_network.proofs.Joining.{joining_keeps_chain, joining_keeps_each_chain}
use Rattle.dnssec_network.proofs.chain.second_signer_may_join.Goals as goal

pub returns-clause-chain : goal.returns-clause-chain
returns-clause-chain c = joining_keeps_chain

pub returns-clause-each_chain : goal.returns-clause-each_chain
returns-clause-each_chain c = joining_keeps_each_chain
