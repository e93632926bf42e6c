-- What is left to drop.
use Rattle.dnssec_judge.proofs.Base.{◌≡◌, length, None, trimmed}
use Rattle.dnssec_judge.proofs.window.spans.Spans.trim.Given as goal

abbrev pub invariant-loop-self : goal.invariant-loop-self
invariant-loop-self l = record {
  dropped : trimmed l.floor l.initial.self.list.items ≡ trimmed l.floor l.self.list.items;
  none : l.self.common ≡ None;
}

abbrev pub decreases-loop-self : goal.decreases-loop-self
decreases-loop-self l = length l.self.list.items
