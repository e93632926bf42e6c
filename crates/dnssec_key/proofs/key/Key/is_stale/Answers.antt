use Rattle.std.proofs.Common.{rules}
use Rattle.dnssec_key.proofs.key.Key.is_stale.Goals as goal

pub returns-then-stale : goal.returns-then-stale
returns-then-stale c = search rules
