-- Until the first wait of an algorithm roll is over, no key has a DS; and each start keeps the sets
-- whole.
use Rattle.dnssec_policy.proofs.{PlainCalls.automatic-plain, Whole.automatic-whole}
use Rattle.dnssec_policy.proofs.laws.automatic_runs_are_plain.Goals as goal

pub returns-clause-plain : goal.returns-clause-plain
returns-clause-plain c = λ name calls entries network time run auto. automatic-plain run auto

pub returns-clause-whole : goal.returns-clause-whole
returns-clause-whole c = λ name calls entries network time run auto. automatic-whole run auto
