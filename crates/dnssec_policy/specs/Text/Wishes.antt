-- What a line of a policy says.
use Rattle.std.specs.Prelude.{ℕ, if◌then◌else◌, Bool, true, false, List, [], ◌∷◌, codes, find}
use Rattle.std.specs.Prelude.{Option, None, Some, option_and_then}
use Rattle.std.specs.{Option.option_map, Str.bytes_eq}
use Rattle.dnssec_network.specs.Text.Lines.{either_named}
use Rattle.dnssec_script.specs.Script.{Form, Value, Moment, Number, as_number, as_time, fields_of}
use Rattle.dnssec_script.specs.Script.{first_field, value_at, values_of}
use Rattle.dnssec_policy.specs.declared.policy.KeyRole.{KeyRole}
use Rattle.dnssec_policy.specs.declared.policy.KeyRole.TheVariants.{Ksk, Zsk, Csk}
use Rattle.dnssec_policy.specs.declared.policy.{KskMethod.KskMethod, Term.Term, Scheme.Scheme}
use Rattle.dnssec_policy.specs.declared.policy.Scheme.TheVariants.{Split, SingleType}
use Rattle.dnssec_policy.specs.declared.policy.ZskMethod.{ZskMethod}
use Rattle.dnssec_policy.specs.declared.text.wish.{PolicyDraft.PolicyDraft, Wish.Wish}
use Rattle.dnssec_policy.specs.declared.text.wish.WishWord.{WishWord}
use Rattle.dnssec_policy.specs.declared.policy.KskMethod.TheVariants as ksks
use Rattle.dnssec_policy.specs.declared.policy.ZskMethod.TheVariants as zsks
use Rattle.dnssec_policy.specs.declared.text.wish.Wish.TheVariants as wish
use Rattle.dnssec_policy.specs.declared.text.wish.WishWord.TheVariants as word

-- ---- the first line

-- how KSKs are rolled, by the name of the roll
abbrev pub ksk_named : List ℕ → Option KskMethod
ksk_named name =
    either_named name (codes "ksk-roll", ksks.DoubleSignature)
    (codes "ksk-double-ds-roll", ksks.DoubleDs)

-- and ZSKs
abbrev pub zsk_named : List ℕ → Option ZskMethod
zsk_named name =
    either_named name (codes "zsk-roll", zsks.PrePublish)
    (codes "zsk-double-signature-roll", zsks.DoubleSignature)

-- what a field says that is a number or a moment
abbrev pub amount : Value → ℕ
amount (Number n) = n
amount (Moment t) = t
amount _ = 0

-- CSKs, if no field follows
abbrev pub single_of : List (List ℕ) → Option Scheme
single_of fields = option_map (λ none. SingleType) (values_of [] fields)

-- KSKs that are rolled so, and ZSKs by the roll that the last field names
abbrev pub split_of : KskMethod → List (List ℕ) → Option Scheme
split_of k fields =
    option_and_then (λ x.
    option_and_then (λ z. option_map (λ none. Split k z) (values_of [] x.1)) (zsk_named x.0))
    (first_field fields)

-- the scheme whose rolls the fields name: `csk-roll`, or that of KSKs and that of ZSKs
unfoldable pub scheme_of : List (List ℕ) → Option Scheme
scheme_of fields =
    option_and_then (λ x. if bytes_eq x.0 (codes "csk-roll") then single_of x.1
    else option_and_then (λ k. split_of k x.1) (ksk_named x.0)) (first_field fields)

-- the number of the algorithm, and the scheme
abbrev pub base_of : List (List ℕ) → Option (ℕ × Scheme)
base_of fields =
    option_and_then (λ x. option_map (λ scheme. (amount x.0, scheme)) (scheme_of x.1))
    (value_at (as_number 255) fields)

-- what the first line says: `policy`, an algorithm, and the rolls of a scheme
unfoldable pub as_first : List ℕ → Option (ℕ × Scheme)
as_first line =
    option_and_then (λ x. if bytes_eq x.0 (codes "policy") then base_of x.1 else None)
    (first_field (fields_of line))

-- ---- further lines

abbrev pub word_name : WishWord → List ℕ
word_name (word.Lifetime Ksk) = codes "ksk-lifetime"
word_name (word.Lifetime Zsk) = codes "zsk-lifetime"
word_name (word.Lifetime Csk) = codes "csk-lifetime"
word_name (word.Once Ksk) = codes "ksk-once"
word_name (word.Once Zsk) = codes "zsk-once"
word_name (word.Once Csk) = codes "csk-once"
word_name word.DeleteAfter = codes "delete-after"

abbrev pub words : List WishWord
words = word.Lifetime Ksk ∷ word.Lifetime Zsk ∷ word.Lifetime Csk
    ∷ word.Once Ksk ∷ word.Once Zsk ∷ word.Once Csk ∷ word.DeleteAfter ∷ []

-- the word with this name
unfoldable pub word_named : List ℕ → Option WishWord
word_named name = find (λ w. bytes_eq name (word_name w)) words

-- the word that stands first, and the fields after it
abbrev pub word_at : List (List ℕ) → Option (WishWord × List (List ℕ))
word_at fields =
    option_and_then (λ x. option_map (λ w. (w, x.1)) (word_named x.0)) (first_field fields)

-- the only field
abbrev pub only : Form → List (List ℕ) → Option ℕ
only form fields =
    option_and_then (λ x. option_map (λ none. amount x.0) (values_of [] x.1))
    (value_at form fields)

abbrev pub seconds_in : List (List ℕ) → Option ℕ
seconds_in fields = only (as_number 18446744073709551615) fields

abbrev pub moment_in : List (List ℕ) → Option ℕ
moment_in fields = only as_time fields

-- what the fields after a word say
abbrev pub wish_after : WishWord → List (List ℕ) → Option Wish
wish_after (word.Lifetime role) fields = option_map (λ n. wish.Lifetime role n) (seconds_in fields)
wish_after (word.Once role) fields = option_map (λ t. wish.Once role t) (moment_in fields)
wish_after word.DeleteAfter fields = option_map (λ n. wish.DeleteAfter n) (seconds_in fields)

-- what a further line says
unfoldable pub as_wish : List ℕ → Option Wish
as_wish line = option_and_then (λ w. wish_after w.0 w.1) (word_at (fields_of line))

-- ---- what lines have said so far

-- the keys of the scheme have this role
abbrev pub has_role : Scheme → KeyRole → Bool
has_role (Split k z) Ksk = true
has_role (Split k z) Zsk = true
has_role SingleType Csk = true
has_role _ _ = false

-- the wish is one for such keys
abbrev pub is_for : Scheme → Wish → Bool
is_for scheme (wish.Lifetime role n) = has_role scheme role
is_for scheme (wish.Once role t) = has_role scheme role
is_for scheme (wish.DeleteAfter n) = true

-- nothing is said yet: keys are never renewed, and stay no longer than they have to
abbrev pub no_wish : PolicyDraft
no_wish = record {
  ksk = record { lifetime = None; once = None };
  zsk = record { lifetime = None; once = None };
  delete_after = None;
}

-- only if this isn't said yet: each is said at most once
abbrev pub unless_said : {A : Type 0} → Option ℕ → A → Option A
unless_said None x = Some x
unless_said (Some n) x = None

abbrev pub with_lifetime : Term → ℕ → Option Term
with_lifetime r n = unless_said r.lifetime (record { lifetime = Some n; once = r.once })

abbrev pub with_once : Term → ℕ → Option Term
with_once r t = unless_said r.once (record { lifetime = r.lifetime; once = Some t })

-- when keys of a role are renewed
abbrev pub slot : PolicyDraft → KeyRole → Term
slot d Zsk = d.zsk
slot d _ = d.ksk

abbrev pub with_slot : PolicyDraft → KeyRole → Term → PolicyDraft
with_slot d Zsk r = record { ksk = d.ksk; zsk = r; delete_after = d.delete_after }
with_slot d _ r = record { ksk = r; zsk = d.zsk; delete_after = d.delete_after }

abbrev pub with_deletion : PolicyDraft → ℕ → Option PolicyDraft
with_deletion d n =
    unless_said d.delete_after (record { ksk = d.ksk; zsk = d.zsk; delete_after = Some n })

-- after one more wish
abbrev pub after : PolicyDraft → Wish → Option PolicyDraft
after d (wish.Lifetime role n) = option_map (with_slot d role) (with_lifetime (slot d role) n)
after d (wish.Once role t) = option_map (with_slot d role) (with_once (slot d role) t)
after d (wish.DeleteAfter n) = with_deletion d n
