-- Reading on, line by line.
use Rattle.std.proofs.Common.{◌≡◌, ℕ, suc, ◌∷◌, List, Ok, Err, ap}
use Rattle.dnssec_policy.specs.declared.policy.Scheme.{Scheme}
use Rattle.dnssec_policy.specs.declared.text.{fault.PolicyFault.PolicyFault}
use Rattle.dnssec_policy.specs.declared.text.wish.PolicyDraft.{PolicyDraft}
use Rattle.dnssec_policy.specs.Text.Reading.{line_after, onward, read_from}

-- a line that says something new
pub one-more : (scheme : Scheme) (n : ℕ) (d more : PolicyDraft) (line : List ℕ)
    (lines : List (List ℕ)) → line_after scheme n d line ≡ Ok more
    → read_from scheme n d (line ∷ lines) ≡ read_from scheme (suc n) more lines
unfolding read_from
one-more scheme n d more line lines e =
    ap (onward (λ more. read_from scheme (suc n) more lines)) e

-- and one with a fault
pub faulty : (scheme : Scheme) (n : ℕ) (d : PolicyDraft) (fault : PolicyFault) (line : List ℕ)
    (lines : List (List ℕ)) → line_after scheme n d line ≡ Err fault
    → read_from scheme n d (line ∷ lines) ≡ Err fault
unfolding read_from
faulty scheme n d fault line lines e =
    ap (onward (λ more. read_from scheme (suc n) more lines)) e
