use Rattle.std.proofs.Common.{rules}
use Rattle.dnssec_key.proofs.kind.KeyState.ending.Goals as goal

pub returns-in-true-false-true : goal.returns-in-true-false-true
returns-in-true-false-true c = search rules
