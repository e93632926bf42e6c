-- The law, as it is proved on the definitions.
use Rattle.dnssec_base.proofs.Complete as law
use Rattle.dnssec_base.proofs.name.laws.spells_unless_fault.Goals as goal

pub returns : goal.returns
returns c = law.spells_unless_fault
