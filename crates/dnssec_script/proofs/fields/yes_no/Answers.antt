-- The word for yes.
use Rattle.std.proofs.Common.{rules}
use Rattle.dnssec_script.specs.Script.{as_yes_no}
use Rattle.dnssec_script.proofs.fields.yes_no.Goals as goal

pub returns-then-eq : goal.returns-then-eq
unfolding as_yes_no
returns-then-eq c = search rules
