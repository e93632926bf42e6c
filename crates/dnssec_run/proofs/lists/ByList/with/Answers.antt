use Rattle.dnssec_run.proofs.ListBits.{or-fits, or-is}
use Rattle.dnssec_run.proofs.lists.ByList.with.Goals as goal

pub invariant_of-result : goal.invariant_of-result
invariant_of-result c = or-fits _ _ c.self.invariant c.other.invariant

pub returns : goal.returns
returns c = rw (← c.self.view_is, ← c.other.view_is)
    (or-is c.self.inside.bits c.other.inside.bits)
