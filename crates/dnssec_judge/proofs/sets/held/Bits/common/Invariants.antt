-- The words so far are what both have.
use Rattle.dnssec_judge.proofs.Base.{ℕ, ◌≡◌, common_at, get_or, if◌then◌else◌, nat_lt, vec_len}
use Rattle.dnssec_judge.specs.Bits.{rest_of}
use Rattle.dnssec_judge.proofs.sets.held.Bits.common.Given as goal

abbrev pub invariant-loop-index : goal.invariant-loop-index
invariant-loop-index l = (vec_len l.rest ≡ l.index) × ((i : ℕ) → get_or l.rest.items i 0
    ≡ (if nat_lt i l.index then common_at (rest_of l.self.rest) (rest_of l.other.rest) i else 0))
