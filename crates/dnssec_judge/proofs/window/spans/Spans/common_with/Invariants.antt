-- What is common so far is in the new set, and in each set so far.
use Rattle.dnssec_judge.proofs.Base.{All, IsWithin, take}
use Rattle.dnssec_judge.proofs.window.spans.Spans.common_with.Given as goal

abbrev pub invariant-loop-place : goal.invariant-loop-place
invariant-loop-place l = record {
  each : All (λ s. IsWithin l.common s.set) (take l.place l.self.list.items);
  set : IsWithin l.common l.set;
}
