-- The text of a policy.
use Rattle.std.specs.Prelude.{◌≡◌, ℕ, ◌≤◌, ◌*◌, ◌/◌, ◌++◌, List, [], codes, decimal}
use Rattle.std.specs.Prelude.{Option, None, Some, IfSome}
use Rattle.dnssec_key.specs.{Texts.roll_name, declared.roll.RollType.TheVariants.CskRoll}
use Rattle.dnssec_policy.specs.{Keys.ksk_roll, Keys.zsk_roll, declared.policy.KeyRole.KeyRole}
use Rattle.dnssec_policy.specs.declared.policy.KeyRole.TheVariants.{Ksk, Zsk, Csk}
use Rattle.dnssec_policy.specs.declared.policy.{Policy.Policy, Term.Term, Scheme.Scheme}
use Rattle.dnssec_policy.specs.declared.policy.Scheme.TheVariants.{Split, SingleType}
use Rattle.dnssec_policy.specs.declared.text.wish.WishWord.{WishWord}
use Rattle.dnssec_policy.specs.declared.text.wish.WishWord.TheVariants as word
use Rattle.dnssec_policy.specs.Text.Wishes.{word_name}

-- ---- names

-- the rolls by which keys are renewed
abbrev pub rolls_text : Scheme → List ℕ
rolls_text (Split k z) = roll_name (ksk_roll k) ++ codes " " ++ roll_name (zsk_roll z)
rolls_text SingleType = roll_name CskRoll

-- ---- lines, each with its line feed

abbrev pub first_line : Policy → List ℕ
first_line p =
    codes "policy " ++ decimal p.algorithm ++ codes " " ++ rolls_text p.scheme ++ codes "\n"

abbrev pub number_line : WishWord → ℕ → List ℕ
number_line w n = word_name w ++ codes " " ++ decimal n ++ codes "\n"

abbrev pub lifetime_text : KeyRole → Option ℕ → List ℕ
lifetime_text role None = []
lifetime_text role (Some n) = number_line (word.Lifetime role) n

-- in whole seconds
abbrev pub once_text : KeyRole → Option ℕ → List ℕ
once_text role None = []
once_text role (Some t) = number_line (word.Once role) (t / 1_000_000_000)

abbrev pub renewal_text : KeyRole → Term → List ℕ
renewal_text role r = lifetime_text role r.lifetime ++ once_text role r.once

abbrev pub renewals_text : Policy → Scheme → List ℕ
renewals_text p (Split k z) = renewal_text Ksk p.ksk ++ renewal_text Zsk p.zsk
renewals_text p SingleType = renewal_text Csk p.ksk

-- ---- the text

abbrev pub policy_text : Policy → List ℕ
policy_text p =
    first_line p ++ renewals_text p p.scheme ++ number_line word.DeleteAfter p.delete_after

-- ---- which policies a text can say

-- a number of 64 bits
abbrev pub IsNumber : ℕ → Type 0
IsNumber n = n ≤ 18446744073709551615

-- a moment in whole seconds
abbrev pub IsSecond : ℕ → Type 0
IsSecond t = (second : ℕ) × IsNumber second × (t ≡ second * 1_000_000_000)

abbrev pub IsSayableRenewal : Term → Type 0
IsSayableRenewal r = IfSome r.lifetime IsNumber × IfSome r.once IsSecond

-- CSKs alone say nothing of ZSKs
abbrev pub HasNoOther : Policy → Scheme → Type 0
HasNoOther p (Split k z) = IsSayableRenewal p.zsk
HasNoOther p SingleType = p.zsk ≡ record { lifetime = None; once = None }

pub record IsSayable (p : Policy) : Type 0 where
  pub algorithm : p.algorithm ≤ 255
  pub ksk : IsSayableRenewal p.ksk
  pub zsk : HasNoOther p p.scheme
  pub delete_after : IsNumber p.delete_after
