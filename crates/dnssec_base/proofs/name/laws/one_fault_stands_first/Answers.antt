-- The law, as it is proved on the definitions.
use Rattle.dnssec_base.proofs.OneFault as law
use Rattle.dnssec_base.proofs.name.laws.one_fault_stands_first.Goals as goal

pub returns : goal.returns
returns c = law.one_fault_stands_first
