-- When a record may begin in a zone that is signed already.
use Rattle.dnssec_network.proofs.SignedBefore.{wider_sets_have_chain}
use Rattle.dnssec_network.proofs.chain.signed_zones_may_begin.Goals as goal

pub returns-clause-wider : goal.returns-clause-wider
returns-clause-wider c = wider_sets_have_chain
