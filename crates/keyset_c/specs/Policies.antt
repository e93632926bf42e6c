-- What a policy says, as C gets it.
use Rattle.std.specs.Prelude.{◌≡◌, ◌⊎◌, ℕ, List}
use Rattle.dnssec_policy.specs.Automatic.Answer.{AnswersNext}
use Rattle.dnssec_policy.specs.Automatic.Faults.{next_fault_text}
use Rattle.dnssec_policy.specs.declared.automatic.fault.NextFault.{NextFault}
use Rattle.keyset_c.specs.Answered.{AtLength}

-- the text says why nothing is said
abbrev pub SaysWhy : List ℕ → Type 0
SaysWhy text = (why : NextFault) × (text ≡ next_fault_text why)

-- what is said, or why nothing is, has this length
abbrev pub IsSaid : List ℕ → List ℕ → List ℕ → ℕ → ℕ → Type 0
IsSaid policy script notes seconds n =
    AtLength (AnswersNext policy script notes seconds) n ⊎ AtLength SaysWhy n
