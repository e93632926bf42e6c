-- What servers renew in time is valid in caches.
use Rattle.dnssec_network.proofs.Validity.{resolvers_find_valid_chain}
use Rattle.dnssec_network.proofs.chain.resolvers_find_valid_chain.Goals as goal

pub returns-clause-valid : goal.returns-clause-valid
returns-clause-valid c = resolvers_find_valid_chain
