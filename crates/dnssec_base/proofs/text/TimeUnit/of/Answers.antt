use Rattle.std.proofs.Common.{rules}
use Rattle.dnssec_base.proofs.text.TimeUnit.of.Goals as goal

pub returns-in-1000-to-340282366920938463463374607431768211455 :
    goal.returns-in-1000-to-340282366920938463463374607431768211455
returns-in-1000-to-340282366920938463463374607431768211455 c = search rules
