use Rattle.dnssec_key.proofs.Alike.{alike_states}
use Rattle.dnssec_key.proofs.facts_for_proofs.equal_states_are_one.Goals as goal

pub returns : goal.returns
returns c = alike_states c.args.a.now c.args.b.now
