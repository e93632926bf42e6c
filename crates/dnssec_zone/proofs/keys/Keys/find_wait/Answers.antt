-- A wait is over from the latest moment on. To keep it changes no key.
use Rattle.dnssec_zone.proofs.Latest.{latest-is}
use Rattle.dnssec_zone.proofs.keys.Keys.find_wait.Goals as goal

pub invariant_of-self : goal.invariant_of-self
invariant_of-self c = (
  c.self.invariant.0,
  c.self.invariant.1,
  c.find.ensures.known c.self.invariant.2,
  c.self.invariant.3,
)

pub returns-clause-over : goal.returns-clause-over
returns-clause-over c = rw (← c.self.view_is) (latest-is c.args.roll c.args.half c.args.ttl _ _
    (c.find.ensures.over c.self.invariant.2)).0

pub returns-clause-missing : goal.returns-clause-missing
returns-clause-missing c = rw (← c.self.view_is) (latest-is c.args.roll c.args.half c.args.ttl _ _
    (c.find.ensures.over c.self.invariant.2)).1
