-- The law, as it is proved on the definitions.
use Rattle.dnssec_base.proofs.NoFault as law
use Rattle.dnssec_base.proofs.name.laws.spells_no_fault.Goals as goal

pub returns : goal.returns
returns c = law.spells_no_fault
