-- A line that says a wish is read as that wish; and the first line as what it says.
use Rattle.std.proofs.Common.{◌≡◌, ℕ, ◌≤◌, ◌/◌, ◌∙◌, ◌++◌, ◌∷◌, List, [], Some, ap, arith}
use Rattle.std.proofs.Common.{Option, None, bytes_eq, codes, decimal, if◌then◌else◌, refl}
use Rattle.std.proofs.Common.{option_and_then}
use Rattle.dnssec_script.specs.Script.{fields_of, first_field}
use Rattle.dnssec_policy.specs.declared.policy.{KeyRole.KeyRole, Policy.Policy, Scheme.Scheme}
use Rattle.dnssec_policy.specs.declared.policy.KeyRole.TheVariants.{Ksk, Zsk, Csk}
use Rattle.dnssec_policy.specs.declared.policy.KskMethod.TheVariants as ksks
use Rattle.dnssec_policy.specs.declared.policy.Scheme.TheVariants.{Split, SingleType}
use Rattle.dnssec_policy.specs.declared.policy.ZskMethod.TheVariants as zsks
use Rattle.dnssec_policy.specs.declared.text.wish.Wish.TheVariants as wish
use Rattle.dnssec_policy.specs.declared.text.wish.{WishWord.WishWord}
use Rattle.dnssec_policy.specs.declared.text.wish.WishWord.TheVariants as word
use Rattle.dnssec_policy.specs.Text.Wishes.{as_first, as_wish, base_of, scheme_of}
use Rattle.dnssec_policy.specs.Text.Wishes.{wish_after, word_name, word_named}
use Rattle.dnssec_policy.specs.Text.Writing.{IsNumber, IsSecond, rolls_text}
use Rattle.dnssec_policy.proofs.Texts.Cut.{first-field, lacks, one-field}
use Rattle.dnssec_policy.proofs.Texts.Numbers.{digits-lack, number-back, time-back}

-- ---- further lines

-- a line of a word and a number, without its line feed
abbrev pub bare : WishWord → ℕ → List ℕ
bare w n = word_name w ++ 32 ∷ decimal n

-- a word has no space and no line feed in it, and is read as itself
pub word-back : (w : WishWord) → (lacks 32 (word_name w)) × (lacks 10 (word_name w))
    × (word_named (word_name w) ≡ Some w)
unfolding word_named
word-back (word.Lifetime Ksk) = (refl, refl, refl)
word-back (word.Lifetime Zsk) = (refl, refl, refl)
word-back (word.Lifetime Csk) = (refl, refl, refl)
word-back (word.Once Ksk) = (refl, refl, refl)
word-back (word.Once Zsk) = (refl, refl, refl)
word-back (word.Once Csk) = (refl, refl, refl)
word-back word.DeleteAfter = (refl, refl, refl)

-- it is read as its word with the field after it
read-bare : (w : WishWord) (n : ℕ) → IsNumber n
    → as_wish (bare w n) ≡ wish_after w (decimal n ∷ [])
unfolding as_wish
read-bare w n small =
    let fields : fields_of (bare w n) ≡ word_name w ∷ decimal n ∷ [] =
    first-field (word_name w) (decimal n) (word-back w).0
    ∙ ap (λ t. word_name w ∷ t) (one-field (decimal n) (digits-lack 32 n (omega arith)
    (omega arith))) in
    rw (fields, (word-back w).2) refl

pub lifetime-back : (role : KeyRole) (n : ℕ) → IsNumber n
    → as_wish (bare (word.Lifetime role) n) ≡ Some (wish.Lifetime role n)
lifetime-back role n small =
    read-bare (word.Lifetime role) n small
    ∙ (rw (number-back 18446744073709551615 n small (omega arith)) refl)

pub deletion-back : (n : ℕ) → IsNumber n
    → as_wish (bare word.DeleteAfter n) ≡ Some (wish.DeleteAfter n)
deletion-back n small =
    read-bare word.DeleteAfter n small
    ∙ (rw (number-back 18446744073709551615 n small (omega arith)) refl)

pub once-back : (role : KeyRole) (t : ℕ) → IsSecond t
    → as_wish (bare (word.Once role) (t / 1_000_000_000)) ≡ Some (wish.Once role t)
once-back role t (second, small, is) =
    let whole : t / 1_000_000_000 ≡ second = omega arith in
    rw (whole, read-bare (word.Once role) second small, time-back second small, is) refl

-- ---- the first line

-- the names of its rolls have no line feed in them, and are read as the scheme
pub rolls-back : (scheme : Scheme) → lacks 10 (rolls_text scheme)
    × (scheme_of (fields_of (rolls_text scheme)) ≡ Some scheme)
unfolding scheme_of
rolls-back (Split ksks.DoubleSignature zsks.PrePublish) = (refl, refl)
rolls-back (Split ksks.DoubleSignature zsks.DoubleSignature) = (refl, refl)
rolls-back (Split ksks.DoubleDs zsks.PrePublish) = (refl, refl)
rolls-back (Split ksks.DoubleDs zsks.DoubleSignature) = (refl, refl)
rolls-back SingleType = (refl, refl)

-- without its line feed
abbrev pub bare_first : Policy → List ℕ
bare_first p = codes "policy" ++ 32 ∷ (decimal p.algorithm ++ 32 ∷ rolls_text p.scheme)

base-back : (p : Policy) → p.algorithm ≤ 255
    → base_of (decimal p.algorithm ∷ fields_of (rolls_text p.scheme))
    ≡ Some (p.algorithm, p.scheme)
base-back p small =
    rw (number-back 255 p.algorithm small (omega arith), (rolls-back p.scheme).1) refl

-- what the fields say
abbrev said_by : List (List ℕ) → Option (ℕ × Scheme)
said_by fields = option_and_then
    (λ (x : List ℕ × List (List ℕ)). if bytes_eq x.0 (codes "policy") then base_of x.1 else None)
    (first_field fields)

pub first-back : (p : Policy) → p.algorithm ≤ 255
    → as_first (bare_first p) ≡ Some (p.algorithm, p.scheme)
unfolding as_first
first-back p small =
    let rest = decimal p.algorithm ++ 32 ∷ rolls_text p.scheme in
    let one : fields_of (bare_first p) ≡ codes "policy" ∷ fields_of rest =
    first-field (codes "policy") rest refl in
    let two : fields_of rest ≡ decimal p.algorithm ∷ fields_of (rolls_text p.scheme) =
    first-field (decimal p.algorithm) (rolls_text p.scheme)
    (digits-lack 32 p.algorithm (omega arith) (omega arith)) in
    ap said_by one ∙ ap base_of two ∙ base-back p small
