use Rattle.dnssec_run.proofs.ListBits.{chosen-fits, chosen-is}
use Rattle.dnssec_run.proofs.lists.ByList.choose.Goals as goal

pub invariant_of-result : goal.invariant_of-result
invariant_of-result c = chosen-fits c.self.inside.bits c.other.inside.bits c.at.inside.bits
    c.self.invariant c.other.invariant c.at.invariant

pub returns : goal.returns
returns c = rw (← c.self.view_is, ← c.other.view_is, ← c.at.view_is)
    (chosen-is c.self.inside.bits c.other.inside.bits c.at.inside.bits)
