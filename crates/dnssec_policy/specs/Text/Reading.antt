-- Which lines are a policy, and which line of others is the first with a fault.
use Rattle.std.specs.Prelude.{ℕ, suc, if◌then◌else◌, List, [], ◌∷◌, Option, None, Some, unwrap_or}
use Rattle.std.specs.{Prelude.Result, Prelude.Ok, Prelude.Err, Option.ok_or}
use Rattle.dnssec_policy.specs.declared.policy.{Policy.Policy, Scheme.Scheme}
use Rattle.dnssec_policy.specs.declared.text.fault.PolicyFault.{PolicyFault}
use Rattle.dnssec_policy.specs.declared.text.fault.PolicyFault.TheVariants.{Malformed, SaidTwice}
use Rattle.dnssec_policy.specs.declared.text.fault.PolicyFault.TheVariants.{NoSuchKeys}
use Rattle.dnssec_policy.specs.declared.text.wish.{PolicyDraft.PolicyDraft, Wish.Wish}
use Rattle.dnssec_policy.specs.Text.Wishes.{after, as_first, as_wish, is_for, no_wish}

-- ---- line by line

-- after one more wish on line n, beside the scheme of the first line
abbrev pub said_after : Scheme → ℕ → PolicyDraft → Wish → Result PolicyDraft PolicyFault
said_after scheme n d wish =
    if is_for scheme wish then ok_or (after d wish) (SaidTwice n) else Err (NoSuchKeys n)

abbrev pub wish_said : Scheme → ℕ → PolicyDraft → Option Wish → Result PolicyDraft PolicyFault
wish_said scheme n d None = Err (Malformed n)
wish_said scheme n d (Some wish) = said_after scheme n d wish

-- after one more line
abbrev pub line_after : Scheme → ℕ → PolicyDraft → List ℕ → Result PolicyDraft PolicyFault
line_after scheme n d line = wish_said scheme n d (as_wish line)

-- the fault of a line, or what the others say
abbrev pub onward : (PolicyDraft → Result PolicyDraft PolicyFault)
    → Result PolicyDraft PolicyFault → Result PolicyDraft PolicyFault
onward rest (Err fault) = Err fault
onward rest (Ok d) = rest d

-- what lines say, the first of them of this number; or the first fault
unfoldable pub read_from : Scheme → ℕ → PolicyDraft → List (List ℕ) → Result PolicyDraft PolicyFault
read_from scheme n d [] = Ok d
read_from scheme n d (line ∷ lines) =
    onward (λ more. read_from scheme (suc n) more lines) (line_after scheme n d line)

-- ---- all lines

abbrev pub policy_with : ℕ × Scheme → PolicyDraft → Policy
policy_with base d = record {
  algorithm = base.0;
  scheme = base.1;
  ksk = d.ksk;
  zsk = d.zsk;
  delete_after = unwrap_or d.delete_after 0;
}

abbrev pub of_draft : ℕ × Scheme → Result PolicyDraft PolicyFault → Result Policy PolicyFault
of_draft base (Ok d) = Ok (policy_with base d)
of_draft base (Err fault) = Err fault

abbrev pub of_first : Option (ℕ × Scheme) → List (List ℕ) → Result Policy PolicyFault
of_first None lines = Err (Malformed 1)
of_first (Some base) lines = of_draft base (read_from base.1 2 no_wish lines)

-- the policy of all lines, or the first fault
abbrev pub policy_of : List (List ℕ) → Result Policy PolicyFault
policy_of [] = Err (Malformed 1)
policy_of (first ∷ lines) = of_first (as_first first) lines
