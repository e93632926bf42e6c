-- The script format: what a line says, which bytes are a script, and which line of other bytes is
-- the first malformed one.
use Rattle.std.specs.Prelude.{◌≡◌, ℕ, ◌+◌, ◌-◌, ◌*◌, ◌<◌, ◌≤◌, ◌==◌, nat_le}
use Rattle.std.specs.Prelude.{Bool, true, false, not, ◌&&◌, ◌||◌, if◌then◌else◌, MatchBool}
use Rattle.std.specs.Prelude.{List, [], ◌∷◌, ◌++◌, length, map, fold, find, slice_index_or, codes}
use Rattle.std.specs.Prelude.{Option, Some, None, IsSome, option_and_then, string_bytes}
use denote.Bor.{now}
use Rattle.std.specs.Option.{option_map}
use Rattle.std.specs.List.{slice_split, list_all}
use Rattle.std.specs.Char.{is_ascii_digit, is_ascii_graphic}
use Rattle.std.specs.Io.BufRead.{strip_last}
use Rattle.std.specs.Str.{bytes_eq}
use Rattle.dnssec_base.specs.AlgorithmNames.{algorithm_named}
use Rattle.dnssec_base.specs.NameText as names
use Rattle.dnssec_key.specs.declared.roll.RollType.{RollType}
use Rattle.dnssec_key.specs.Key.{is_available}
use Rattle.dnssec_key.specs.Texts.{roll_name}
use Rattle.dnssec_zone.specs.Rolls.{all_rolls}
use Rattle.dnssec_run.specs.declared.call.Call.{Call}
use Rattle.dnssec_run.specs.declared.call.Call.TheVariants as call
use Rattle.dnssec_script.specs.declared.word.Word.{Word}
use Rattle.dnssec_script.specs.declared.word.Word.TheVariants as word

-- ---- lines and fields

-- a text without the line feed at its end
abbrev pub without_end : List ℕ → List ℕ
without_end = strip_last 10

-- the lines, between line feeds: one at the very end only ends the last line
abbrev pub lines_of : List ℕ → List (List ℕ)
lines_of script = slice_split (λ b. b == 10) (without_end script)

-- the fields of a line, between single spaces
abbrev pub fields_of : List ℕ → List (List ℕ)
fields_of line = slice_split (λ b. b == 32) line

-- ---- what a field says

-- what fields can say; a moment is in nanoseconds
pub data Value : Type 0 where
  Reference : List ℕ → Value
  Private : Option (List ℕ) → Value
  References : List (List ℕ) → Value
  Flag : Bool → Value
  Roll : RollType → Value
  Number : ℕ → Value
  Moment : ℕ → Value

-- what a field has to be: the value of each text of this form
abbrev pub Form : Type 0
Form = List ℕ → Option Value

-- a visible ASCII character, except the comma
abbrev pub is_reference_byte : ℕ → Bool
is_reference_byte b = is_ascii_graphic b && not (b == 44)

-- such bytes, at least one, but not a single `-`
unfoldable pub is_reference : List ℕ → Bool
is_reference text =
    not (length text == 0) && not (bytes_eq text (codes "-")) && list_all is_reference_byte text

-- a key's reference
unfoldable pub as_reference : Form
as_reference text = if is_reference text then Some (Reference text) else None

-- a private reference, or `-` for none
unfoldable pub as_private : Form
as_private text =
    if bytes_eq text (codes "-") then Some (Private None)
    else (if is_reference text then Some (Private (Some text)) else None)

-- references with single commas between them, or `-` for none
unfoldable pub is_list : List ℕ → Bool
is_list text =
    bytes_eq text (codes "-") || list_all is_reference (slice_split (λ b. b == 44) text)

-- the references of a list
unfoldable pub references_of : List ℕ → List (List ℕ)
references_of text = if bytes_eq text (codes "-") then [] else slice_split (λ b. b == 44) text

-- a list of references
unfoldable pub as_list : Form
as_list text = if is_list text then Some (References (references_of text)) else None

-- `yes` or `no`
unfoldable pub as_yes_no : Form
as_yes_no text =
    if bytes_eq text (codes "yes") then Some (Flag true)
    else (if bytes_eq text (codes "no") then Some (Flag false) else None)

-- a roll, by its name
unfoldable pub roll_named : List ℕ → Option RollType
roll_named name = find (λ r. bytes_eq (roll_name r) name) all_rolls

-- the name of a roll
unfoldable pub as_roll : Form
as_roll text = option_map Roll (roll_named text)

-- the number that digits write
abbrev pub number_of : List ℕ → ℕ
number_of digits = fold (λ n d. n * 10 + (d - 48)) 0 digits

-- 1 to 20 digits that write a number up to this
unfoldable pub is_number : ℕ → List ℕ → Bool
is_number most text =
    nat_le 1 (length text) && nat_le (length text) 20 && list_all is_ascii_digit text
    && nat_le (number_of text) most

-- a number up to this
unfoldable pub as_number : ℕ → Form
as_number most text = if is_number most text then Some (Number (number_of text)) else None

-- an algorithm: its number, or its name
unfoldable pub as_algorithm : Form
as_algorithm text =
    if is_number 255 text then Some (Number (number_of text))
    else option_map Number (algorithm_named text)

-- a key tag
abbrev pub as_tag : Form
as_tag = as_number 65535

-- a TTL, in seconds
abbrev pub as_ttl : Form
as_ttl = as_number 4294967295

-- a moment, in whole seconds
unfoldable pub as_time : Form
as_time text =
    if is_number 18446744073709551615 text then Some (Moment (number_of text * 1_000_000_000))
    else None

-- ---- what a line says

-- the words and their names
abbrev pub words : List (List ℕ × Word)
words =
    (codes "add-ksk", word.AddKsk)
    ∷ (codes "add-zsk", word.AddZsk)
    ∷ (codes "add-csk", word.AddCsk)
    ∷ (codes "add-public", word.AddPublic)
    ∷ (codes "set-decoupled", word.SetDecoupled)
    ∷ (codes "set-present", word.SetPresent)
    ∷ (codes "set-signer", word.SetSigner)
    ∷ (codes "set-at-parent", word.SetAtParent)
    ∷ (codes "set-stale", word.SetStale)
    ∷ (codes "set-visible", word.SetVisible)
    ∷ (codes "set-ds-visible", word.SetDsVisible)
    ∷ (codes "set-rrsig-visible", word.SetRrsigVisible)
    ∷ (codes "delete", word.Delete)
    ∷ (codes "start", word.Start)
    ∷ (codes "report1", word.Report1)
    ∷ (codes "wait1", word.Wait1)
    ∷ (codes "report2", word.Report2)
    ∷ (codes "wait2", word.Wait2)
    ∷ (codes "done", word.Done)
    ∷ (codes "abort", word.Abort)
    ∷ []

-- a word, by its name
unfoldable pub word_named : List ℕ → Option Word
word_named name = option_map (λ row. row.1) (find (λ row. bytes_eq row.0 name) words)

-- what an add says after the references of its key
abbrev pub trait_forms : List Form
trait_forms = as_algorithm ∷ as_tag ∷ as_time ∷ as_yes_no ∷ []

-- the fields of an add
abbrev pub signing_key_forms : List Form
signing_key_forms = as_reference ∷ as_private ∷ trait_forms

-- and of an add of another signer's key
abbrev pub public_key_forms : List Form
public_key_forms = as_reference ∷ trait_forms

-- what the fields after a word have to be
abbrev pub forms_of_word : Word → List Form
forms_of_word word.AddKsk = signing_key_forms
forms_of_word word.AddZsk = signing_key_forms
forms_of_word word.AddCsk = signing_key_forms
forms_of_word word.AddPublic = public_key_forms
forms_of_word word.SetDecoupled = as_reference ∷ as_yes_no ∷ []
forms_of_word word.SetPresent = as_reference ∷ as_yes_no ∷ as_time ∷ []
forms_of_word word.SetSigner = as_reference ∷ as_yes_no ∷ []
forms_of_word word.SetAtParent = as_reference ∷ as_yes_no ∷ []
forms_of_word word.SetStale = as_reference ∷ []
forms_of_word word.SetVisible = as_reference ∷ as_time ∷ []
forms_of_word word.SetDsVisible = as_reference ∷ as_time ∷ []
forms_of_word word.SetRrsigVisible = as_reference ∷ as_time ∷ []
forms_of_word word.Delete = as_reference ∷ []
forms_of_word word.Start = as_roll ∷ as_list ∷ as_list ∷ as_time ∷ []
forms_of_word word.Report1 = as_roll ∷ as_ttl ∷ as_time ∷ []
forms_of_word word.Wait1 = as_roll ∷ as_time ∷ []
forms_of_word word.Report2 = as_roll ∷ as_ttl ∷ as_time ∷ []
forms_of_word word.Wait2 = as_roll ∷ as_time ∷ []
forms_of_word word.Done = as_roll ∷ []
forms_of_word word.Abort = as_roll ∷ []

-- the first field, and those after it
abbrev pub first_field : List (List ℕ) → Option (List ℕ × List (List ℕ))
first_field [] = None
first_field (field ∷ fields) = Some (field, fields)

-- what the first field says, and the fields after it
abbrev pub value_at : Form → List (List ℕ) → Option (Value × List (List ℕ))
value_at form [] = None
value_at form (field ∷ fields) = option_map (λ v. (v, fields)) (form field)

-- what the fields say, if each has its form
abbrev pub values_of : List Form → List (List ℕ) → Option (List Value)
values_of [] [] = Some []
values_of [] (field ∷ fields) = None
values_of (form ∷ forms) fields =
    option_and_then (λ x. option_map (λ values. x.0 ∷ values) (values_of forms x.1))
    (value_at form fields)

-- the word that stands first, and the fields after it
abbrev pub word_at : List (List ℕ) → Option (Word × List (List ℕ))
word_at [] = None
word_at (name ∷ fields) = option_map (λ w. (w, fields)) (word_named name)

-- what fields say after a word
abbrev pub said_after_word : Word → List (List ℕ) → Option (Word × List Value)
said_after_word w fields = option_map (λ values. (w, values)) (values_of (forms_of_word w) fields)

-- what a line says: its word, and what each field says
unfoldable pub says : List ℕ → Option (Word × List Value)
says line = option_and_then (λ x. said_after_word x.0 x.1) (word_at (fields_of line))

-- ---- calls

-- what an add says of its key after the references
abbrev pub trait_values : ℕ → ℕ → ℕ → Bool → List Value
trait_values algorithm tag created available =
    Number algorithm ∷ Number tag ∷ Moment created ∷ Flag available ∷ []

-- the same with the references
abbrev pub key_values : List ℕ → Option (List ℕ) → ℕ → ℕ → ℕ → Bool → List Value
key_values pubref privref algorithm tag created available =
    Reference pubref ∷ Private privref ∷ trait_values algorithm tag created available

-- a call in the words of a script
abbrev pub call_says : Call → Word × List Value
call_says (call.AddKeyKsk p q a t c y) = (
  word.AddKsk,
  key_values (string_bytes p) (option_map string_bytes q) a t c (is_available y),
)
call_says (call.AddKeyZsk p q a t c y) = (
  word.AddZsk,
  key_values (string_bytes p) (option_map string_bytes q) a t c (is_available y),
)
call_says (call.AddKeyCsk p q a t c y) = (
  word.AddCsk,
  key_values (string_bytes p) (option_map string_bytes q) a t c (is_available y),
)
call_says (call.AddPublicKey p a t c y) =
    (word.AddPublic, Reference (string_bytes p) ∷ trait_values a t c y)
call_says (call.SetDecoupled p y) = (word.SetDecoupled, Reference p.now ∷ Flag y ∷ [])
call_says (call.SetPresent p y t) = (word.SetPresent, Reference p.now ∷ Flag y ∷ Moment t ∷ [])
call_says (call.SetSigner p y) = (word.SetSigner, Reference p.now ∷ Flag y ∷ [])
call_says (call.SetAtParent p y) = (word.SetAtParent, Reference p.now ∷ Flag y ∷ [])
call_says (call.SetStale p) = (word.SetStale, Reference p.now ∷ [])
call_says (call.SetVisible p t) =
    (word.SetVisible, Reference p.now ∷ Moment t ∷ [])
call_says (call.SetDsVisible p t) =
    (word.SetDsVisible, Reference p.now ∷ Moment t ∷ [])
call_says (call.SetRrsigVisible p t) =
    (word.SetRrsigVisible, Reference p.now ∷ Moment t ∷ [])
call_says (call.DeleteKey p) = (word.Delete, Reference p.now ∷ [])
call_says (call.StartRoll r old new t) = (
  word.Start,
  Roll r ∷ References (map now old.now) ∷ References (map now new.now) ∷ Moment t ∷ [],
)
call_says (call.Propagation1Complete r ttl t) =
    (word.Report1, Roll r ∷ Number ttl ∷ Moment t ∷ [])
call_says (call.CacheExpired1 r t) = (word.Wait1, Roll r ∷ Moment t ∷ [])
call_says (call.Propagation2Complete r ttl t) =
    (word.Report2, Roll r ∷ Number ttl ∷ Moment t ∷ [])
call_says (call.CacheExpired2 r t) = (word.Wait2, Roll r ∷ Moment t ∷ [])
call_says (call.RollDone r) = (word.Done, Roll r ∷ [])
call_says (call.AbortRoll r) = (word.Abort, Roll r ∷ [])

-- the line makes this call
abbrev pub IsLineOf : List ℕ → Call → Type 0
IsLineOf line call = says line ≡ Some (call_says call)

-- ---- scripts

-- the line names the zone
abbrev pub IsZoneLine : List ℕ → List ℕ → Type 0
IsZoneLine line name = (text : List ℕ) × (line ≡ codes "zone " ++ text) × names.Spells text name

-- the line names a zone
abbrev pub NamesZone : List ℕ → Type 0
NamesZone line = (name : List ℕ) × IsZoneLine line name

-- each line makes its call
abbrev pub AreLinesOf : List (List ℕ) → List Call → Type 0
AreLinesOf [] [] = Unit {0}
AreLinesOf (line ∷ lines) (call ∷ calls) = IsLineOf line call × AreLinesOf lines calls
AreLinesOf _ _ = ⊥

-- the first line names the zone, and each further line makes its call
abbrev pub AreScript : List (List ℕ) → List ℕ → List Call → Type 0
AreScript [] name calls = ⊥
AreScript (zone ∷ lines) name calls = IsZoneLine zone name × AreLinesOf lines calls

-- the bytes are a script of this zone and these calls
abbrev pub IsScript : List ℕ → List ℕ → List Call → Type 0
IsScript script name calls = AreScript (lines_of script) name calls

-- ---- malformed lines

-- line n, counted from 1, has its form: the first names a zone, every other makes a call
abbrev pub HasForm : ℕ → List ℕ → Type 0
HasForm n line = MatchBool (n == 1) (NamesZone line) (IsSome (says line))

-- line n, counted from 1
abbrev pub line_of : List (List ℕ) → ℕ → List ℕ
line_of lines n = slice_index_or lines (n - 1) []

-- the first line names a zone
abbrev pub BeginsWithZone : List ℕ → Type 0
BeginsWithZone script = NamesZone (line_of (lines_of script) 1)

-- line n is the first malformed one
pub record IsFirstOf (lines : List (List ℕ)) (n : ℕ) : Type 0 where
  pub number : (0 < n) × (n ≤ length lines)
  pub malformed : ¬ HasForm n (line_of lines n)
  pub before : (k : ℕ) → 0 < k → k < n → HasForm k (line_of lines k)

-- line n of the script is its first malformed one
abbrev pub IsFirstMalformed : List ℕ → ℕ → Type 0
IsFirstMalformed script n = IsFirstOf (lines_of script) n
