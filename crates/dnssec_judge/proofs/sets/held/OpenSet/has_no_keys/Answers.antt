-- One word has no numbers if it is 0.
use Rattle.dnssec_judge.proofs.Words.{one-none}
use Rattle.std.proofs.Common.{arith}
use Rattle.dnssec_judge.proofs.sets.held.OpenSet.has_no_keys.Goals as goal

pub returns-in-None : goal.returns-in-None
returns-in-None c =
    rw (← c.self.view_is, c.in-None.is) (one-none c.self.inside.keys.first (omega arith))
