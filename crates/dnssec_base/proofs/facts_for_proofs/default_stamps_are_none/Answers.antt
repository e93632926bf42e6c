-- Each stamp of default timestamps is missing.
use Rattle.std.proofs.Common.{sym, ◌∙◌}
use Rattle.dnssec_base.proofs.facts_for_proofs.default_stamps_are_none.Goals as goal

pub returns : goal.returns
returns c = λ d. sym d.1 ∙ cc
