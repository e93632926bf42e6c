-- The law, as it is proved on the definitions.
use Rattle.dnssec_base.proofs.PrintedNames as law
use Rattle.dnssec_base.proofs.name.laws.prints_its_spelling.Goals as goal

pub returns : goal.returns
returns c = law.prints_its_spelling
