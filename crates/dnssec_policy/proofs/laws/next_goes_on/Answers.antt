-- Each roll in progress has its say, and the most urgent is said.
use Rattle.dnssec_policy.proofs.{Ahead.ahead, Prompt.prompt}
use Rattle.dnssec_policy.proofs.laws.next_goes_on.Goals as goal

pub returns : goal.returns
returns c = λ name calls entries network time n policy v run auto le at.
    (prompt run auto n le v at policy, ahead v policy)
