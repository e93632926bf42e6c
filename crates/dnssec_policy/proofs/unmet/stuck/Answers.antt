-- The ends of the waits, and the keys in order.
use Rattle.std.proofs.Common.{List, ap, map, sym, ◌∙◌}
use Rattle.std.specs.FinMap as fin
use Rattle.dnssec_zone.specs.Keys.{Keys}
use Rattle.dnssec_run.specs.InOrder.{entry_of}
use Rattle.dnssec_policy.{specs.Code.end_of, proofs.Loops.Lent}
use Rattle.dnssec_policy.proofs.unmet.stuck.Goals as goal

pub returns : goal.returns
returns c = (
  end_of c.of_keyset-ends.result,
  c.of_keyset-ends.ensures,
  c.stuck_of.ensures (ap (λ (keys : Keys). fin.entries keys) (sym c.keys.ensures.shown)
      ∙ sym c.in_ok-keys.ensures
      ∙ ap (λ (es : List Lent). map {A = Lent} entry_of es) (sym c.deref.ensures.value)),
)
