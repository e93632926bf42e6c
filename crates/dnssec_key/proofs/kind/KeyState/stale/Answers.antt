use Rattle.std.proofs.Common.{rules}
use Rattle.dnssec_key.proofs.kind.KeyState.stale.Goals as goal

pub returns-then-not-self-2 : goal.returns-then-not-self-2
returns-then-not-self-2 c = search rules
