-- The law, as it is proved on the definitions.
use Rattle.dnssec_base.proofs.OneName as law
use Rattle.dnssec_base.proofs.name.laws.spells_one_name.Goals as goal

pub returns : goal.returns
returns c = law.spells_one_name
