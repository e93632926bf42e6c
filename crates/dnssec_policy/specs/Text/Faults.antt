-- The texts of faults.
use Rattle.std.specs.Prelude.{ℕ, ◌++◌, List, codes, decimal}
use Rattle.dnssec_key.specs.Texts.{roll_name}
use Rattle.dnssec_network.specs.Texts.{memory_text}
use Rattle.dnssec_policy.specs.declared.text.fault.PolicyFault.{PolicyFault}
use Rattle.dnssec_policy.specs.declared.text.fault.PolicyFault.TheVariants.{Malformed, SaidTwice}
use Rattle.dnssec_policy.specs.declared.text.fault.PolicyFault.TheVariants.{NoSuchKeys, OutOfMemory}
use Rattle.dnssec_policy.specs.declared.text.lint.TooShort.{TooShort}

-- what is said of a policy
abbrev pub fault_text : PolicyFault → List ℕ
fault_text (Malformed n) = codes "line " ++ decimal n ++ codes ": malformed"
fault_text (SaidTwice n) = codes "line " ++ decimal n ++ codes ": said twice"
fault_text (NoSuchKeys n) = codes "line " ++ decimal n ++ codes ": no such keys by line 1"
fault_text OutOfMemory = memory_text

-- and of a lifetime
abbrev pub too_short_text : TooShort → List ℕ
too_short_text fault =
    codes "a lifetime of "
    ++ (decimal fault.lifetime
    ++ (codes " seconds is shorter than a "
    ++ (roll_name fault.roll ++ (codes " takes: " ++ decimal fault.takes))))
