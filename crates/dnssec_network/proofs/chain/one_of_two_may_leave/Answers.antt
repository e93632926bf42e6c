-- One of two signers leaves.
use Rattle.dnssec_network.proofs.Leaving.{leaving_keeps_chain, leaving_keeps_each_chain}
use Rattle.dnssec_network.proofs.Leaving.{nothing_is_left}
use Rattle.dnssec_network.proofs.chain.one_of_two_may_leave.Goals as goal

pub returns-clause-chain : goal.returns-clause-chain
returns-clause-chain c = leaving_keeps_chain

pub returns-clause-each_chain : goal.returns-clause-each_chain
returns-clause-each_chain c = leaving_keeps_each_chain

pub returns-clause-gone : goal.returns-clause-gone
returns-clause-gone c = nothing_is_left
