-- Two signers with prompt servers meet the guide's rules.
use Rattle.dnssec_network.proofs.Pairs.{joining_can_be_met, pairs_can_be_met}
use Rattle.dnssec_network.proofs.chain.two_signers_can_be_met.Goals as goal

pub returns-clause-pairs : goal.returns-clause-pairs
returns-clause-pairs c = pairs_can_be_met

pub returns-clause-joining : goal.returns-clause-joining
returns-clause-joining c = joining_can_be_met
