-- Two signers that keep the guide's rules meet the premises.
use Rattle.dnssec_network.proofs.Guide.{guide_gives_chain, guide_gives_each_chain}
use Rattle.dnssec_network.proofs.chain.guide_gives_chain.Goals as goal

pub returns-clause-chain : goal.returns-clause-chain
returns-clause-chain c = guide_gives_chain

pub returns-clause-each_chain : goal.returns-clause-each_chain
returns-clause-each_chain c = guide_gives_each_chain
