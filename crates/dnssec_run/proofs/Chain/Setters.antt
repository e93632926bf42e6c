-- What a setter of a plain list leaves as it was: all but another signer's key.
use Rattle.dnssec_zone.specs.Start.{lists_kind, side_of}
use Rattle.dnssec_zone.proofs.Flags.{SideOf, has_role, is_idle}
use Rattle.std.proofs.Common.{◌≡◌, ℕ, ◌⊎◌, inl, Bool, true, false, refl, List, Option, Some, arith}
use Rattle.std.specs.{Prelude.if◌then◌else◌, Str.bytes_eq, Cmp.Lexicographic.bytes_decides}
use Rattle.std.specs.{FinMap.get, Option.option_map}
use Rattle.dnssec_key.specs.declared.{roll.RollType.RollType, kind.KeyType.KeyType}
use Rattle.dnssec_key.specs.Key.{KeyParts}
use Rattle.dnssec_key.specs.Setters.{Setting, is_flag_setting, set_by}
use Rattle.dnssec_keyset.specs.KeySet.{KeySetParts}
use Rattle.dnssec_run.proofs.Premise.{is_another_signers, is_plain_setting}
use Rattle.dnssec_run.proofs.Chain.{Tables.Stamp, Tale.stamp_of}

-- ---- another signer's key

pub others-role : (sd : SideOf) (k : KeyType) → is_another_signers k ≡ true → has_role sd k ≡ false
others-role sd k e = grind arith

pub others-idle : (k : KeyType) → is_another_signers k ≡ true → is_idle k ≡ true
others-idle k e = grind arith

pub others-unlisted : (r : RollType) (k : KeyType) → is_another_signers k ≡ true
    → lists_kind (side_of r) k ≡ false
others-unlisted r k e = grind arith

-- ---- a key before and after a setter

-- j is k with its flags and stamps, or both are another signer's
pub record Harmless (k j : KeyParts) : Type 0 where
  pub kind : (j.keytype ≡ k.keytype)
      ⊎ ((is_another_signers k.keytype ≡ true) × (is_another_signers j.keytype ≡ true))
  pub stamps : (s : Stamp) → stamp_of s j ≡ stamp_of s k

-- what is the same of all keys of other signers is the same of both
pub harmless-alike : (p : KeyType → Bool) (c : Bool)
    → ((k : KeyType) → is_another_signers k ≡ true → p k ≡ c) → (k j : KeyParts) → Harmless k j
    → p j.keytype ≡ p k.keytype
harmless-alike p c others k j h = let kind = h.kind in grind (arith, others)

pub harmless-same : (k : KeyParts) → Harmless k k
harmless-same k = record { kind = inl refl; stamps = λ s. refl }

set_harmless : (s : Setting) (k : KeyParts) → is_plain_setting s (Some k) ≡ true
    → Harmless k (set_by s k)
set_harmless s k e = grind arith

-- a key whose flag a setter of a plain list sets has no role
pub set_role : (b : Bool) (sd : SideOf) (s : Setting) (o : Option KeyParts) (j : KeyParts)
    → b ≡ true → is_plain_setting s o ≡ true → is_flag_setting s ≡ true
    → option_map (λ k. if b then set_by s k else k) o ≡ Some j → has_role sd j.keytype ≡ false
set_role b sd s o j here plain flag e = grind arith

pub harmless : (set : KeySetParts) (r : List ℕ) (s : Setting)
    → is_plain_setting s (get set.keys r) ≡ true → (q : List ℕ) (k : KeyParts)
    → get set.keys q ≡ Some k → Harmless k (if bytes_eq r q then set_by s k else k)
harmless set r s plain q k at = grind (arith, (bytes_decides r q).0, set_harmless, harmless-same)
