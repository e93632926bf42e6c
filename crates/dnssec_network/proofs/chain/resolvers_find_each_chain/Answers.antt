-- What resolvers hold may be cached by the record, so it has a chain by each algorithm.
use Rattle.dnssec_network.proofs.Held.{resolvers_find_each_chain}
use Rattle.dnssec_network.proofs.chain.resolvers_find_each_chain.Goals as goal

pub returns : goal.returns
returns c = resolvers_find_each_chain
