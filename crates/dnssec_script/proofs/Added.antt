-- A script's add names its key by a reference.
use Rattle.std.proofs.Common.{◌≡◌, ℕ, zero, suc, true, List, [], ◌∷◌, Option, None, Some}
use Rattle.std.proofs.Common.{ap, arith, subst}
use Rattle.std.proofs.lemmas.Option.{none-some, same_Some}
use Rattle.std.specs.Prelude.{option_and_then, slice_get}
use Rattle.std.specs.Option.{option_map}
use Rattle.dnssec_run.specs.declared.call.Call.{Call}
use Rattle.dnssec_run.specs.declared.call.Call.TheVariants as call
use Rattle.dnssec_run.specs.Record.{call_of, reference_added}
use Rattle.dnssec_script.specs.Script.{AreLinesOf, AreScript, Form, IsLineOf, IsScript, Reference}
use Rattle.dnssec_script.specs.Script.{Value, as_reference, fields_of, forms_of_word, is_reference}
use Rattle.dnssec_script.specs.Script.{as_private, lines_of, said_after_word, says, trait_forms}
use Rattle.dnssec_script.specs.Script.{values_of, word_at}
use Rattle.dnssec_script.specs.declared.word.Word.{Word}
use Rattle.dnssec_script.specs.declared.word.Word.TheVariants as word

-- ---- the first field of an add

of-reference : (text r : List ℕ) → as_reference text ≡ Some (Reference r) → is_reference r ≡ true
unfolding as_reference
of-reference text r e = grind arith

first-of : (v : Value) (o : Option (List Value)) (r : List ℕ) (values : List Value)
    → option_map (λ vs. v ∷ vs) o ≡ Some (Reference r ∷ values) → v ≡ Reference r
first-of v None r values e = absurd (cc)
first-of v (Some vs) r values e = cc

begins : (forms : List Form) (o : Option Value) (rest : List (List ℕ)) (r : List ℕ)
    (values : List Value)
    → option_and_then
    (λ (x : Value × List (List ℕ)). option_map (λ vs. x.0 ∷ vs) (values_of forms x.1))
    (option_map (λ (v : Value). (v, rest)) o) ≡ Some (Reference r ∷ values)
    → o ≡ Some (Reference r)
begins forms None rest r values e = absurd (cc)
begins forms (Some v) rest r values e = ap Some (first-of v (values_of forms rest) r values e)

first-named : (forms : List Form) (fields : List (List ℕ)) (r : List ℕ) (values : List Value)
    → values_of (as_reference ∷ forms) fields ≡ Some (Reference r ∷ values)
    → is_reference r ≡ true
first-named forms [] r values e = absurd (cc)
first-named forms (field ∷ fields) r values e =
    of-reference field r (begins forms (as_reference field) fields r values e)

-- ---- what a line says

said : (w : Word) (o : Option (List Value)) (v : Word) (values : List Value)
    → option_map {U = Word × List Value} (λ vs. (w, vs)) o ≡ Some (v, values)
    → (w ≡ v) × (o ≡ Some values)
said w None v values e = absurd (cc)
said w (Some vs) v values e =
    let same : ◌≡◌ {A = Word × List Value} (w, vs) (v, values) = same_Some _ _ e in
    (ap (λ (x : Word × List Value). x.0) same, ap (λ (x : Word × List Value). Some x.1) same)

by-word : (o : Option (Word × List (List ℕ))) (v : Word) (values : List Value)
    → option_and_then (λ (x : Word × List (List ℕ)). said_after_word x.0 x.1) o ≡ Some (v, values)
    → (fields : List (List ℕ)) × (values_of (forms_of_word v) fields ≡ Some values)
by-word None v values e = absurd (cc)
by-word (Some (w, fields)) v values e =
    let s = said w (values_of (forms_of_word w) fields) v values e in
    (fields, subst (λ w. values_of (forms_of_word w) fields ≡ Some values) s.0 s.1)

named : (line : List ℕ) (c : Call) → IsLineOf line c → (q : List ℕ)
    → reference_added (call_of c) ≡ Some q → is_reference q ≡ true
unfolding says
named line (call.AddKeyKsk p s a t i y) is q e =
    let x = by-word (word_at (fields_of line)) word.AddKsk _ is in
    subst (λ q. is_reference q ≡ true) (same_Some _ _ e)
    (first-named (as_private ∷ trait_forms) x.0 _ _ x.1)
named line (call.AddKeyZsk p s a t i y) is q e =
    let x = by-word (word_at (fields_of line)) word.AddZsk _ is in
    subst (λ q. is_reference q ≡ true) (same_Some _ _ e)
    (first-named (as_private ∷ trait_forms) x.0 _ _ x.1)
named line (call.AddKeyCsk p s a t i y) is q e =
    let x = by-word (word_at (fields_of line)) word.AddCsk _ is in
    subst (λ q. is_reference q ≡ true) (same_Some _ _ e)
    (first-named (as_private ∷ trait_forms) x.0 _ _ x.1)
named line (call.AddPublicKey p a t i y) is q e =
    let x = by-word (word_at (fields_of line)) word.AddPublic _ is in
    subst (λ q. is_reference q ≡ true) (same_Some _ _ e)
    (first-named trait_forms x.0 _ _ x.1)
named line _ is q e = absurd (none-some q e)

-- ---- a script

of-lines : (lines : List (List ℕ)) (calls : List Call) → AreLinesOf lines calls
    → (n : ℕ) (c : Call) → slice_get calls n ≡ Some c → (line : List ℕ) × IsLineOf line c
of-lines [] [] are n c e = absurd (none-some c e)
of-lines (line ∷ lines) (k ∷ calls) are zero c e =
    (line, subst (IsLineOf line) (same_Some k c e) are.0)
of-lines (line ∷ lines) (k ∷ calls) are (suc n) c e = of-lines lines calls are.1 n c e
of-lines _ _ are n c e = absurd are

of-script : (lines : List (List ℕ)) (name : List ℕ) (calls : List Call) → AreScript lines name calls
    → (n : ℕ) (c : Call) → slice_get calls n ≡ Some c → (line : List ℕ) × IsLineOf line c
of-script [] name calls are n c e = absurd are
of-script (zone ∷ lines) name calls are n c e = of-lines lines calls are.1 n c e

-- a key that a script adds has a reference that scripts can say
pub added-named : (script name : List ℕ) (calls : List Call) → IsScript script name calls
    → (n : ℕ) (c : Call) → slice_get calls n ≡ Some c → (q : List ℕ)
    → reference_added (call_of c) ≡ Some q → is_reference q ≡ true
added-named script name calls is n c made q added =
    let x = of-script (lines_of script) name calls is n c made in named x.0 c x.1 q added
