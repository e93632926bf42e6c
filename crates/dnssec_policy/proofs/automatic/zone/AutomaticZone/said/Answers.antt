-- What is said is made, if it is a call.
use Rattle.std.proofs.Common.{subst}
use Rattle.dnssec_policy.specs.Automatic.Zone.{Says}
use Rattle.dnssec_policy.proofs.automatic.zone.AutomaticZone.said.Goals as goal

pub returns-in-None : goal.returns-in-None
returns-in-None c name calls entries so high =
    (_, c.in_ok-todo.ensures name calls entries so high, c.in-None.ensures.none)

pub returns : goal.returns
returns c name calls entries so high = (
  c.in-Some.call,
  subst (Says name calls entries c.args.policy.now c.args.moment c.args.self.now)
      c.in-Some.ensures.some (c.in_ok-todo.ensures name calls entries so high),
  c.in_ok-made-in-Some.ensures name calls entries so,
)
