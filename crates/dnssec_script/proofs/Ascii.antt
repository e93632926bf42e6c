-- A text of ASCII characters is text: a reference, and the name of a zone, a word, a roll or an
-- algorithm.
use Rattle.std.proofs.Common.{◌≡◌, ℕ, ◌<◌, ◌≤◌, ◌∙◌, [], ◌∷◌, ◌&&◌, ◌==◌, Bool, true, false, not}
use Rattle.std.proofs.Common.{List, ap, arith, codes, cond, length, ◌≢◌, refl, subst, sym}
use Rattle.std.proofs.lemmas.{Grind.common_steps, Str.IsUtf8-from_ascii, Str.Ascii.IsAscii-from_all}
use Rattle.std.proofs.lemmas.{List.Sums.AllPass-from_list_all, Bool.Decides.nat_tests}
use Rattle.std.proofs.lemmas.Bool.{false_from_ne_true}
use Rattle.std.specs.{Prelude.None, Prelude.Some, Prelude.find, Prelude.nat_le, List.list_all}
use Rattle.std.specs.{Str.IsAscii, Str.IsNotAscii, Str.IsUtf8, Str.bytes_eq}
use Rattle.std.specs.{Cmp.Lexicographic.bytes_decides, Option.option_map}
use Rattle.dnssec_base.{specs.AlgorithmNames.algorithm_named, proofs.AlgorithmNames.no_name}
use Rattle.dnssec_zone.specs.Rolls.{all_rolls}
use Rattle.dnssec_key.specs.Texts.{roll_name}
use Rattle.dnssec_script.specs.Script.{is_reference, is_reference_byte, roll_named, word_named}
use Rattle.dnssec_script.specs.Script.{word_at, words}
use Rattle.dnssec_script.specs.declared.word.Word.{Word}

-- if each byte passes a test that only ASCII passes
all_ascii : (p : ℕ → Bool) → ((b : ℕ) → p b ≡ true → b < 128) → (text : List ℕ)
    → list_all p text ≡ true → IsAscii text
all_ascii p ascii text is =
    let each = AllPass-from_list_all p text is in
    IsAscii-from_all text (λ k d within. ascii _ (each k d within))

-- the test of names
abbrev pub is_below : ℕ → Bool
is_below b = nat_le b 0x7E

below_ascii : (text : List ℕ) → list_all is_below text ≡ true → IsAscii text
below_ascii = all_ascii is_below (λ b is. grind (arith, nat_tests))

pub ascii_utf8 : (text : List ℕ) → list_all is_below text ≡ true → IsUtf8 text
ascii_utf8 text is = IsUtf8-from_ascii text (below_ascii text is)

pub one_below : (b : ℕ) (after : List ℕ) → b ≤ 0x7E → list_all is_below after ≡ true
    → list_all is_below (b ∷ after) ≡ true
one_below b after le rest =
    let below : is_below b ≡ true = grind (arith, nat_tests) in
    ap (λ x. x && list_all is_below after) below ∙ rest

pub not_ascii : (text : List ℕ) → IsNotAscii text → ¬ IsAscii text
not_ascii text wide ascii = let below = ascii wide.0 in let above = wide.1 in absurd (omega arith)

-- ---- a reference

last_of_three : (x y z : Bool) → (x && y && z) ≡ true → z ≡ true
last_of_three true true z e = e
last_of_three true false z e = cc
last_of_three false y z e = cc

pub reference_utf8 : (text : List ℕ) → is_reference text ≡ true → IsUtf8 text
unfolding is_reference
reference_utf8 text is =
    let last = last_of_three (not (length text == 0)) (not (bytes_eq text (codes "-"))) _ is in
    IsUtf8-from_ascii text
    (all_ascii is_reference_byte (λ b visible. grind (arith, nat_tests)) text last)

-- ---- a name

-- the text is the name of none of these
abbrev pub Differs : {A : Type 0} → (A → List ℕ) → List ℕ → List A → Type 0
Differs name text [] = Unit {0}
Differs name text (r ∷ rs) = (text ≢ name r) × Differs name text rs

pub unnamed : {A : Type 0} (name : A → List ℕ) (text : List ℕ) (rows : List A)
    → Differs name text rows → find (λ r. bytes_eq (name r) text) rows ≡ None
unnamed name text [] other = refl
unnamed name text (r ∷ rs) other =
    let differs = false_from_ne_true (bytes_eq (name r) text)
    (λ e. other.0 (sym ((bytes_decides (name r) text).0 e))) in
    ap (λ b. cond b (Some r) (find (λ r. bytes_eq (name r) text) rs)) differs
    ∙ unnamed name text rs other.1

-- what isn't ASCII isn't the name of any
differs : {A : Type 0} (name : A → List ℕ) (text : List ℕ) → ¬ IsAscii text → (rows : List A)
    → list_all (λ r. list_all is_below (name r)) rows ≡ true → Differs name text rows
differs name text other [] below = tt
differs name text other (r ∷ rs) below =
    let b = and_both (list_all is_below (name r)) _ below in (
      λ same. other (subst IsAscii (sym same) (below_ascii (name r) b.0)),
      differs name text other rs b.1,
    )
  where
    and_both : (x y : Bool) → (x && y) ≡ true → (x ≡ true) × (y ≡ true)
    and_both true y e = (refl, e)
    and_both false y e = cc

-- the same, each difference on its own
abbrev pub Unless : {A : Type 0} → (A → List ℕ) → List ℕ → Type 0 → List A → Type 0
Unless name text P [] = P
Unless name text P (r ∷ rs) = text ≢ name r → Unless name text P rs

unless : {A : Type 0} (name : A → List ℕ) (text : List ℕ) (P : Type 0) (rows : List A)
    → (Differs name text rows → P) → Unless name text P rows
unless name text P [] holds = holds tt
unless name text P (r ∷ rs) holds = λ other. unless name text P rs (λ others. holds (other, others))

abbrev pub name_of : List ℕ × Word → List ℕ
name_of row = row.0

no_such_word : (text : List ℕ) → Differs name_of text words → None ≡ word_named text
unfolding word_named
no_such_word text other = ap (option_map (λ (row : List ℕ × Word). row.1))
    (sym (unnamed name_of text words other))

pub unless_word : (text : List ℕ) → Unless name_of text (None ≡ word_named text) words
unless_word text = unless name_of text _ words (no_such_word text)

-- the first field, if it is no word
pub no_word_at : (fields : List (List ℕ)) (name : List ℕ) (rest : List (List ℕ))
    → fields ≡ name ∷ rest → None ≡ word_named name → None ≡ word_at fields
no_word_at fields name rest are none =
    ap (option_map (λ (w : Word). (w, rest))) none ∙ sym (ap word_at are)

pub no_word : (text : List ℕ) → ¬ IsAscii text → None ≡ word_named text
no_word text other = no_such_word text (differs name_of text other words refl)

pub no_roll : (text : List ℕ) → ¬ IsAscii text → None ≡ roll_named text
unfolding roll_named
no_roll text other = sym (unnamed roll_name text all_rolls
    (differs roll_name text other all_rolls refl))

pub no_algorithm : (text : List ℕ) → ¬ IsAscii text → None ≡ algorithm_named text
no_algorithm text other =
    no_name text (apart (codes "RSASHA256") refl) (apart (codes "RSASHA512") refl)
    (apart (codes "ECDSAP256SHA256") refl) (apart (codes "ECDSAP384SHA384") refl)
    (apart (codes "ED25519") refl) (apart (codes "ED448") refl)
  where
    apart : (name : List ℕ) → list_all is_below name ≡ true → text ≢ name
    apart name below same = other (subst IsAscii (sym same) (below_ascii name below))

pub ruleset steps = (
  common_steps,
  reference_utf8,
  IsUtf8-from_ascii,
  not_ascii,
  no_word,
  no_roll,
  no_algorithm,
)
