-- The lines of a script: each has its form, or one is the first that has not; and how far they are
-- read.
use Rattle.std.proofs.Common.{◌≡◌, ◌≢◌, ℕ, zero, suc, ◌+◌, ◌-◌, ◌<◌, ◌≤◌, ◌==◌, if◌then◌else◌}
use Rattle.std.proofs.Common.{false, true, Some, None, is_some, IsSome, List, [], ◌∷◌, ◌++◌}
use Rattle.std.proofs.Common.{length, get_or, refl, sym, ap, ◌∙◌, arith, length-append, subst}
use Rattle.std.proofs.Common.{append_assoc, append-nil, Option}
use Rattle.std.specs.Prelude.{MatchBool, nat_lt}
use Rattle.std.proofs.lemmas.{Bool.Decides.nat_tests, Bool.false≢true}
use Rattle.std.proofs.Math.Seq.{get_or-append_seam, take-append_seam}
use Rattle.dnssec_run.specs.declared.call.Call.{Call}
use Rattle.dnssec_script.specs.Script.{AreLinesOf, AreScript, BeginsWithZone, HasForm}
use Rattle.dnssec_script.specs.Script.{IsFirstMalformed, IsFirstOf, IsLineOf, IsScript, IsZoneLine}
use Rattle.dnssec_script.specs.Script.{NamesZone, line_of, lines_of, says, without_end}
use Rattle.dnssec_script.specs.Inner.{Reading.HasRead, Reading.parts_left, Reading.ReadsOn}
use Rattle.dnssec_script.specs.Inner.Statement.{statement_says}
use Rattle.dnssec_script.specs.declared.lines.Lines.{Lines}
use Rattle.dnssec_script.specs.declared.statement.Statement.{Statement}

-- a line feed at the end is taken off, and no other byte
pub without_end_last : (text : List ℕ) (b : ℕ)
    → without_end (text ++ b ∷ []) ≡ (if b == 10 then text else text ++ b ∷ [])
without_end_last text b =
    let long = length-append text (b ∷ []) in
    let some : nat_lt 0 (length (text ++ b ∷ [])) ≡ true = grind (arith, nat_tests) in
    let last : length (text ++ b ∷ []) - 1 ≡ length text = omega arith in
    rw (some, last, get_or-append_seam text b [] 0, take-append_seam text (b ∷ [])) refl

pub ruleset ends = (without_end_last, nat_tests)

-- ---- the form of each line

-- what makes a call says something, also if further lines follow
each_says : (lines rest : List (List ℕ)) (calls : List Call) → AreLinesOf lines calls
    → (i : ℕ) → i < length lines → IsSome (says (get_or (lines ++ rest) i []))
each_says [] rest [] each i within = absurd (omega arith)
each_says [] rest (call ∷ calls) each i within = absurd each
each_says (line ∷ lines) rest [] each i within = absurd each
each_says (line ∷ lines) rest (call ∷ calls) each zero within = ap is_some each.0
each_says (line ∷ lines) rest (call ∷ calls) each (suc i) within =
    each_says lines rest calls each.1 i (omega arith)

-- a line past the first has its form if it says something
form_past : (zone : List ℕ) (lines : List (List ℕ)) (i : ℕ)
    → HasForm (suc (suc i)) (line_of (zone ∷ lines) (suc (suc i)))
    ≡ IsSome (says (get_or lines i []))
form_past zone lines i =
    let e : suc (suc i) - 1 ≡ suc i = omega arith in
    let other : suc (suc i) ≢ 1 = omega arith in
    let past : (suc (suc i) == 1) ≡ false = grind (arith, nat_tests) in
    let line = ap (λ k. get_or (zone ∷ lines) k []) e in
    λ j. MatchBool (past j) ((name : List ℕ) × IsZoneLine (line j) name) (IsSome (says (line j)))

-- each line of a script has its form
script_forms : (lines : List (List ℕ)) (name : List ℕ) (calls : List Call)
    → AreScript lines name calls → (n : ℕ) → 0 < n → n ≤ length lines
    → HasForm n (line_of lines n)
script_forms [] name calls is n above within = absurd is
script_forms (zone ∷ lines) name calls is zero above within = absurd (omega arith)
script_forms (zone ∷ lines) name calls is (suc zero) above within = (name, is.0)
script_forms (zone ∷ lines) name calls is (suc (suc i)) above within =
    let said = subst (λ ls. IsSome (says (get_or ls i []))) (append-nil lines)
    (each_says lines [] calls is.1 i (omega arith)) in
    subst (λ T. T) (sym (form_past zone lines i)) said

-- a script has no malformed line
pub never_malformed : (lines : List (List ℕ)) (name : List ℕ) (calls : List Call) (n : ℕ)
    → AreScript lines name calls → ¬ IsFirstOf lines n
never_malformed lines name calls n is first =
    first.malformed (script_forms lines name calls is n first.number.0 first.number.1)

-- a first line that names no zone
pub zone_first : (zone : List ℕ) (lines : List (List ℕ))
    → ((name : List ℕ) → ¬ IsZoneLine zone name) → IsFirstOf (zone ∷ lines) 1
zone_first zone lines none = record {
  number = (omega arith, omega arith);
  malformed = λ form. none form.0 form.1;
  before = λ k above below. absurd (omega arith);
}

-- a line that says nothing, after the line of the zone and those of calls
silent_first : (zone : List ℕ) (name : List ℕ) (taken : List (List ℕ)) (calls : List Call)
    (line : List ℕ) (rest : List (List ℕ)) → IsZoneLine zone name → AreLinesOf taken calls
    → is_some (says line) ≡ false
    → IsFirstOf (zone ∷ (taken ++ line ∷ rest)) (suc (suc (length taken)))
silent_first zone name taken calls line rest is make silent = record {
  number = (omega arith, omega (arith, long));
  malformed = λ form. false≢true (sym silent ∙ ap (λ l. is_some (says l)) (sym stands)
      ∙ subst (λ T. T) (form_past zone (taken ++ line ∷ rest) (length taken)) form);
  before = before;
}
  where
    long : length (taken ++ line ∷ rest) ≡ length taken + length (line ∷ rest)
    long = length-append taken (line ∷ rest)

    stands : get_or (taken ++ line ∷ rest) (length taken) [] ≡ line
    stands = get_or-append_seam taken line rest []

    before : (k : ℕ) → 0 < k → k < suc (suc (length taken))
        → HasForm k (line_of (zone ∷ (taken ++ line ∷ rest)) k)
    before zero above below = absurd (omega arith)
    before (suc zero) above below = (name, is)
    before (suc (suc k)) above below =
        subst (λ T. T) (sym (form_past zone (taken ++ line ∷ rest) k))
        (each_says taken (line ∷ rest) calls make k (omega arith))

-- ---- how far a script is read

-- one more line, and its call
pub line_more : (lines : List (List ℕ)) (calls : List Call) (line : List ℕ) (call : Call)
    → AreLinesOf lines calls → IsLineOf line call
    → AreLinesOf (lines ++ line ∷ []) (calls ++ call ∷ [])
line_more [] [] line call make is = (is, tt)
line_more [] (other ∷ calls) line call make is = absurd make
line_more (other ∷ lines) [] line call make is = absurd make
line_more (other ∷ lines) (first ∷ calls) line call make is =
    (make.0, line_more lines calls line call make.1 is)

-- a script that is read begins with its zone
pub begins : {script name : List ℕ} {calls : List Call} {lines : Lines}
    → HasRead script name calls lines → BeginsWithZone script
begins {name = name} read =
    subst (λ ls. NamesZone (line_of ls 1)) (sym read.are_all) (name, read.names_zone)

-- after the last line
pub read_whole : (script name : List ℕ) (calls : List Call) (lines : Lines)
    → HasRead script name calls lines → lines.rest ≡ None → IsScript script name calls
read_whole script name calls lines read none =
    let all : lines_of script ≡ read.zone ∷ read.taken =
    read.are_all ∙ ap (λ rest. read.zone ∷ (read.taken ++ parts_left 10 rest)) none
    ∙ ap (λ ls. read.zone ∷ ls) (append-nil read.taken) in
    subst (λ ls. AreScript ls name calls) (sym all) (read.names_zone, read.make)

-- the lines that are left begin with this one
module _ (lines new : Lines) (line : List ℕ)
    (next : parts_left 10 lines.rest ≡ line ∷ parts_left 10 new.rest)
    (counted : new.count ≡ lines.count + 1) where
  split : (script name : List ℕ) (calls : List Call) (read : HasRead script name calls lines)
      → lines_of script ≡ read.zone ∷ (read.taken ++ line ∷ parts_left 10 new.rest)
  split script name calls read =
      read.are_all ∙ ap (λ ls. read.zone ∷ (read.taken ++ ls)) next

  pub read_on : (found : Option Statement) (s : Statement) → found ≡ Some s
      → says line ≡ Some (statement_says s) → (script name : List ℕ) (calls : List Call)
      → HasRead script name calls lines → ReadsOn script name calls new found
  read_on found s is says_so script name calls read =
      subst (ReadsOn script name calls new) (sym is) (λ call same. record {
        zone = read.zone;
        taken = read.taken ++ line ∷ [];
        are_all = split script name calls read ∙ ap (λ ls. read.zone ∷ ls)
            (sym (append_assoc read.taken (line ∷ []) (parts_left 10 new.rest)));
        names_zone = read.names_zone;
        make = line_more read.taken calls line call read.make
            (says_so ∙ ap Some (sym same));
        count = let was = read.count in let long = length-append read.taken (line ∷ []) in
            omega (arith, counted);
      })

  pub read_fault : (script name : List ℕ) (calls : List Call) → is_some (says line) ≡ false
      → HasRead script name calls lines → IsFirstMalformed script new.count
  read_fault script name calls silent read =
      let number : suc (suc (length read.taken)) ≡ new.count =
      let was = read.count in omega (arith, counted) in
      subst (λ ls. IsFirstOf ls new.count) (sym (split script name calls read))
      (subst (IsFirstOf (read.zone ∷ (read.taken ++ line ∷ parts_left 10 new.rest))) number
      (silent_first read.zone name read.taken calls line (parts_left 10 new.rest) read.names_zone
      read.make silent))
