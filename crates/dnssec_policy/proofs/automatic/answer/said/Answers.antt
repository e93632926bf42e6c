-- The line is that of what is said.
use Rattle.std.proofs.Common.{◌*◌, subst}
use Rattle.dnssec_policy.specs.{Code.todo_of, Automatic.Zone.Says}
use Rattle.dnssec_policy.proofs.automatic.answer.said.Goals as goal

pub returns : goal.returns
returns c name calls entries after high =
    let next = c.in_ok-next.next in let a = c.args in record {
      todo = todo_of (a.seconds * 1_000_000_000) next;
      says = subst (λ m. Says name calls entries a.policy.now m a.zone.now (todo_of m next))
          c.moment_of.ensures (c.in_ok-next.ensures name calls entries after high);
      is_line = c.in_ok-line.ensures (a.seconds * 1_000_000_000);
    }
