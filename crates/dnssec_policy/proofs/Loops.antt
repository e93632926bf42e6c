-- What the loops over keys keep, and tests of lent keys.
use Rattle.std.proofs.Common.{◌≡◌, ℕ, Bool, true, false, List, [], ◌∷◌, Option, None, Some, refl}
use Rattle.std.proofs.Common.{sym, ap, ◌∙◌, map, string_bytes, Bor, String}
use Rattle.std.specs.Prelude.{if◌then◌else◌, ◌&&◌, filter, ◌++◌, Result, Ok, Err}
use Rattle.std.proofs.{lemmas.List.append_assoc, lemmas.List.map-append, Math.Seq.drop-cons}
use Rattle.std.proofs.Common.{suc, ◌<◌, ◌≤◌, drop, get_or, length}
use Rattle.std.specs.Prelude.{slice_get}
use Rattle.dnssec_zone.specs.Start.{texts}
use Rattle.dnssec_policy.specs.declared.policy.Policy.{Policy}
use Rattle.dnssec_policy.specs.Keys.{first_of, is_new, new_keys, references_where}
use Rattle.dnssec_policy.specs.declared.policy.KeyRole.{KeyRole}
use Rattle.std.specs.{Global.Global, List.list_all, List.list_any, FinMap.entries}
use Rattle.dnssec_keyset.specs.declared.wait.WaitEnd.{WaitEnd}
use Rattle.dnssec_key.specs.{declared.roll.RollType.RollType, Key.KeyParts}
use Rattle.dnssec_zone.{specs.Keys.Keys, specs.Keys.some_key, proofs.Quantified.list_any-map}
use Rattle.dnssec_run.specs.InOrder.{entry_of}
use Rattle.dnssec_policy.specs.Keys.{earlier, first_over, over_from, serves, with_key}
use Rattle.dnssec_policy.specs.declared.policy.Term.{Term}
use Rattle.dnssec_policy.specs.Next.{deletion, deletions, once_ended}
use Rattle.dnssec_policy.specs.{Todo.Rest, Todo.Todo, Todo.sooner, View.View}
use Rattle.std.specs.List.{fold}
use Rattle.std.proofs.lemmas.List.{Folds.fold-map, Sums.fold-append, take_all, take_more}
use Rattle.dnssec_zone.specs.Rolls.{all_rolls}
use Rattle.std.{proofs.Common.take, proofs.Common.◌+◌, specs.FinMap.values}
use mathlib.Core.List.{map-map}

abbrev pub Lent : Type 0
Lent = Bor (String Global) × Bor KeyParts

-- a loop over all rolls went over each of them
pub over-all : (rs : List RollType) (i : ℕ) → length rs ≤ i → rs ≡ all_rolls → take i rs ≡ all_rolls
over-all rs i past all = take_all i rs past ∙ all

-- the first moment so far, after one more key
abbrev pub aged_key : KeyRole → Term → Option ℕ → KeyParts → Option ℕ
aged_key role renewal best k = if serves role k.keytype
    then earlier best (over_from renewal k.timestamps.published) else best

-- of all these keys
abbrev pub first_from : KeyRole → Term → Option ℕ → List KeyParts → Option ℕ
first_from role renewal best keys = fold (aged_key role renewal) best keys

abbrev pub aged_entry : KeyRole → Term → Option ℕ → Lent → Option ℕ
aged_entry role renewal best e = aged_key role renewal best e.1.now

-- the references of lent keys that pass
abbrev pub picked : (KeyParts → Bool) → List Lent → List (List ℕ)
picked p es =
    map (λ (e : Lent). string_bytes e.0.now) (filter (λ (e : Lent). p e.1.now) es)

picked-next : (p : KeyParts → Bool) (e : Lent) (es : List Lent) (t : Bool) → p e.1.now ≡ t
    → picked p es ≡ references_where p (map {A = Lent} entry_of es)
    → picked p (e ∷ es) ≡ references_where p (map {A = Lent} entry_of (e ∷ es))
picked-next p e es true is rest =
    rw is (ap (λ (qs : List (List ℕ)). string_bytes e.0.now ∷ qs) rest)
picked-next p e es false is rest = rw is rest

pub picked-is : (p : KeyParts → Bool) (es : List Lent)
    → picked p es ≡ references_where p (map {A = Lent} entry_of es)
picked-is p [] = refl
picked-is p (e ∷ es) = picked-next p e es (p e.1.now) refl (picked-is p es)

-- a test of the keys of a set, of them as they are lent
pub some-lent : (p : KeyParts → Bool) (all : Keys) (es : List Lent)
    → entries all ≡ map {A = Lent} entry_of es
    → some_key p all ≡ list_any (λ (e : Lent). p e.1.now) es
some-lent p all es same =
    ap (λ (xs : List (List ℕ × KeyParts)).
    list_any p (map (λ (x : List ℕ × KeyParts). x.1) xs)) same
    ∙ list_any-map p (λ (x : List ℕ × KeyParts). x.1) (map {A = Lent} entry_of es)
    ∙ list_any-map (λ (x : List ℕ × KeyParts). p x.1) entry_of es

-- the same for each of these roles
pub served-lent : (all : Keys) (es : List Lent) → entries all ≡ map {A = Lent} entry_of es
    → (roles : List KeyRole)
    → list_all (λ role. some_key (λ (k : KeyParts). serves role k.keytype) all) roles
    ≡ list_all (λ role. list_any (λ (e : Lent). serves role e.1.now.keytype) es) roles
served-lent all es same [] = refl
served-lent all es same (role ∷ roles) =
    λ i. some-lent (λ (k : KeyParts). serves role k.keytype) all es same i
    && served-lent all es same roles i

-- ---- new keys so far, and those of further roles

abbrev pub onto : List (List ℕ) → Result (List (List ℕ)) KeyRole → Result (List (List ℕ)) KeyRole
onto qs (Ok ps) = Ok (qs ++ ps)
onto qs (Err role) = Err role

pub onto-one : (qs : List (List ℕ)) (q : List ℕ) (r : Result (List (List ℕ)) KeyRole)
    → onto (qs ++ q ∷ []) r ≡ onto qs (with_key (Ok q) r)
onto-one qs q (Ok ps) = ap Ok (append_assoc qs (q ∷ []) ps)
onto-one qs q (Err role) = refl

-- the first of the references that were found
pub first-none : (role : KeyRole) (xs : List (Bor (List ℕ))) → slice_get xs 0 ≡ None
    → first_of role (texts xs) ≡ Err role
first-none role [] e = refl
first-none role (x ∷ xs) e = absurd (cc)

pub first-some : (role : KeyRole) (xs : List (Bor (List ℕ))) (x : Bor (List ℕ))
    → slice_get xs 0 ≡ Some x → first_of role (texts xs) ≡ Ok x.now
first-some role [] x e = absurd (cc)
first-some role (y ∷ xs) x e = let same : y ≡ x = cc in ap (λ (b : Bor (List ℕ)). Ok b.now) same

pub texts-push : (xs : List (Bor (List ℕ))) (x : Bor (List ℕ))
    → texts (xs ++ x ∷ []) ≡ texts xs ++ x.now ∷ []
texts-push xs x = map-append (λ (r : Bor (List ℕ)). r.now) xs (x ∷ [])

module _ (policy : Policy) (all : Keys) (roles : List KeyRole) (i : ℕ) (d : KeyRole)
    (lt : i < length roles) (qs : List (List ℕ)) where
  abbrev pub here : KeyRole
  here = get_or roles i d

  abbrev found : Result (List ℕ) KeyRole
  found = first_of here (references_where (is_new policy here) (entries all))

  abbrev rest : Result (List (List ℕ)) KeyRole
  rest = new_keys policy all (drop (suc i) roles)

  opened : onto qs (new_keys policy all (drop i roles)) ≡ onto qs (with_key found rest)
  opened = ap (λ rs. onto qs (new_keys policy all rs)) (drop-cons roles i d lt)

  pub role-missing : found ≡ Err here → onto qs (new_keys policy all (drop i roles)) ≡ Err here
  role-missing none = opened ∙ ap (λ r. onto qs (with_key r rest)) none

  pub role-found : (q : List ℕ) (j : ℕ) → j ≡ suc i → found ≡ Ok q
      → onto (qs ++ q ∷ []) (new_keys policy all (drop j roles))
      ≡ onto qs (new_keys policy all (drop i roles))
  role-found q j next one =
      ap (λ j. onto (qs ++ q ∷ []) (new_keys policy all (drop j roles))) next
      ∙ onto-one qs q rest ∙ sym (ap (λ r. onto qs (with_key r rest)) one) ∙ sym opened

-- the first moment of the keys of a set, of them as they are lent
pub over-lent : (role : KeyRole) (renewal : Term) (all : Keys) (es : List Lent)
    → entries all ≡ map {A = Lent} entry_of es
    → first_over role renewal (values all)
    ≡ first_over role renewal (map (λ (e : Lent). e.1.now) es)
over-lent role renewal all es same =
    ap (λ (xs : List (List ℕ × KeyParts)).
    first_over role renewal (map (λ (x : List ℕ × KeyParts). x.1) xs)) same
    ∙ ap (first_over role renewal) (map-map (λ (x : List ℕ × KeyParts). x.1) entry_of es)

-- ---- what lent keys have to say

-- deletions don't read when waits are over
abbrev pub no_end : RollType → Option WaitEnd
no_end roll = None

abbrev pub ended_so_far : View → Todo → List RollType → Todo
ended_so_far v todo rs = fold (λ todo roll. once_ended v roll (v.last roll) todo) todo rs

pub ended-more : (v : View) (todo : Todo) (rs : List RollType) (i : ℕ) (d : RollType)
    → i < length rs → ended_so_far v todo (take (i + 1) rs)
    ≡ once_ended v (get_or rs i d) (v.last (get_or rs i d)) (ended_so_far v todo (take i rs))
ended-more v todo rs i d lt =
    ap (ended_so_far v todo) (take_more rs i d lt)
    ∙ fold-append (λ todo roll. once_ended v roll (v.last roll) todo) todo (take i rs)
    (get_or rs i d ∷ [])

abbrev entry_next : Policy → View → Todo → List ℕ × KeyParts → Todo
entry_next policy v best e = sooner best (deletion policy v e.0 e.1)

abbrev pub lent_so_far : Policy → View → List Lent → Todo
lent_so_far policy v es =
    fold (λ best (e : Lent). sooner best (deletion policy v (string_bytes e.0.now) e.1.now)) Rest es

pub lent-more : (policy : Policy) (v : View) (es : List Lent) (i : ℕ) (x : Lent) → i < length es
    → x ≡ get_or es i x → lent_so_far policy v (take (i + 1) es)
    ≡ sooner (lent_so_far policy v (take i es))
    (deletion policy v (string_bytes x.0.now) x.1.now)
lent-more policy v es i x lt is =
    ap (lent_so_far policy v)
    (take_more es i x lt ∙ ap (λ (e : Lent). take i es ++ e ∷ []) (sym is))
    ∙ fold-append (λ best (e : Lent). sooner best
    (deletion policy v (string_bytes e.0.now) e.1.now)) Rest (take i es) (x ∷ [])

pub deletions-lent : (policy : Policy) (v : View) (es : List Lent)
    → entries v.set.keys ≡ map {A = Lent} entry_of es
    → deletions policy v ≡ lent_so_far policy v es
deletions-lent policy v es same =
    ap (fold (entry_next policy v) Rest) same
    ∙ fold-map (entry_next policy v) entry_of Rest es
