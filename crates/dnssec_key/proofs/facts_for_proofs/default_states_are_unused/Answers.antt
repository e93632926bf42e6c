-- Each flag of a default state is off.
use Rattle.std.proofs.Common.{sym, ◌∙◌}
use Rattle.dnssec_key.proofs.facts_for_proofs.default_states_are_unused.Goals as goal

pub returns : goal.returns
returns c = λ d. sym d.1 ∙ cc
