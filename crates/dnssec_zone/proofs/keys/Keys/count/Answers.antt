-- The count that is kept is that of the keys that a contract sees.
use Rattle.std.proofs.Common.{◌∙◌}
use Rattle.dnssec_zone.proofs.keys.Keys.count.Goals as goal

pub returns : goal.returns
returns c = rw (← c.self.view_is) (c.of.ensures ∙ c.self.invariant.1 c.args.want)
