-- The words so far have no bit in common.
use Rattle.dnssec_judge.proofs.Base.{ℕ, ◌<◌, ◌≡◌, all_at}
use Rattle.dnssec_judge.proofs.sets.held.do_all_meet.Given as goal

abbrev pub invariant-loop-index : goal.invariant-loop-index
invariant-loop-index l = (i : ℕ) → i < l.index → all_at l.words l.ones l.others i ≡ 0
