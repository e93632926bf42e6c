-- Some records meet the premises.
use Rattle.dnssec_network.proofs.Models.{premises_can_be_met}
use Rattle.dnssec_network.proofs.chain.premises_can_be_met.Goals as goal

pub returns-clause-one : goal.returns-clause-one
returns-clause-one c = premises_can_be_met
