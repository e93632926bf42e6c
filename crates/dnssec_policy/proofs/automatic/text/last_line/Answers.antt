-- A line feed stands before the last line.
use Rattle.dnssec_policy.proofs.Zone.Asked.{last_found}
use Rattle.dnssec_policy.proofs.automatic.text.last_line.Goals as goal

pub returns-then-text-at-eq10 : goal.returns-then-text-at-eq10
returns-then-text-at-eq10 c =
    last_found c.args.text.now c.loop-at.at c.loop-at-test.true c.loop-at.invariant.0
    c.if-text-at-eq10.true c.loop-at.invariant.1
