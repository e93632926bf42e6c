use Rattle.dnssec_key.proofs.Alike.{alike_kinds}
use Rattle.dnssec_key.proofs.facts_for_proofs.equal_kinds_are_one.Goals as goal

pub returns : goal.returns
returns c = alike_kinds c.args.a.now c.args.b.now
