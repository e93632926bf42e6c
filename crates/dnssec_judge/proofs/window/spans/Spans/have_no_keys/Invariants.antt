-- The sets from the place on have no keys.
use Rattle.dnssec_judge.proofs.Base.{◌≡◌, ◌≤◌, all_in, has_none, length, take}
use Rattle.dnssec_judge.proofs.window.spans.Spans.have_no_keys.Given as goal

abbrev pub invariant-loop-before : goal.invariant-loop-before
invariant-loop-before l = record {
  within : l.place ≤ length l.self.list.items;
  passed : all_in (take l.place l.self.list.items) (λ p. has_none p.0)
      ≡ all_in l.self.list.items (λ p. has_none p.0);
}

abbrev pub decreases-loop-before : goal.decreases-loop-before
decreases-loop-before l = l.place
