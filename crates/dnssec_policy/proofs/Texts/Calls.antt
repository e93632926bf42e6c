-- A line that says a call is read as that call.
use Rattle.std.proofs.Common.{◌≡◌, ℕ, ◌≤◌, ◌*◌, ◌==◌, ◌⊎◌, ◌∙◌, ◌++◌, ◌∷◌, inl, inr, List, []}
use Rattle.std.proofs.Common.{Some, Bool, true, false, not, bytes_eq, codes, decimal}
use Rattle.std.proofs.Common.{map, append_assoc, ap, arith, refl, subst, sym}
use Rattle.std.proofs.lemmas.Bool.{and_parts, false_from_ne_true, true≢false}
use Rattle.std.proofs.lemmas.{Bool.Decides.nat_tests, List.append-nil}
use Rattle.std.proofs.lemmas.List.Splits.{slice_split_at, slice_split_none}
use Rattle.std.proofs.lemmas.List.Sums.{AllPass-from_list_all, list_all-from_AllPass}
use Rattle.std.specs.List.{flat_map, list_all, slice_split}
use Rattle.std.specs.Prelude.{if◌then◌else◌, None, option_and_then, slice_index_or}
use Rattle.std.specs.Cmp.Lexicographic.{bytes_decides}
use denote.Bor.{Bor, now}
use Rattle.dnssec_key.specs.{Texts.roll_name, declared.roll.RollType.RollType}
use Rattle.dnssec_key.specs.declared.roll.RollType.TheVariants as rolls
use Rattle.dnssec_keyset.specs.Step as keyset
use Rattle.dnssec_run.specs.{declared.call.Call.Call, Record.call_of}
use Rattle.dnssec_run.specs.declared.call.Call.TheVariants as call
use Rattle.dnssec_script.specs.Script.{IsLineOf, Moment, Number, Reference, References, Roll}
use Rattle.dnssec_script.specs.Script.{as_list, as_reference, as_roll, as_time, as_ttl, call_says}
use Rattle.dnssec_script.specs.Script.{fields_of, forms_of_word, is_list, is_reference}
use Rattle.dnssec_script.specs.Script.{is_reference_byte, references_of, roll_named}
use Rattle.dnssec_script.specs.Script.{said_after_word, says, word_at, word_named}
use Rattle.dnssec_policy.specs.Automatic.Lines.{call_line, list_text, start_text}
use Rattle.dnssec_policy.proofs.Texts.Cut.{first-field, lack-append, lacks, none-of, one-field}
use Rattle.dnssec_policy.proofs.Texts.Cut.{split-join}
use Rattle.dnssec_policy.proofs.Texts.Numbers.{digits-lack, number-back, time-back}

-- ---- names of rolls

-- a name has no space in it, and is read as its roll
roll-back : (roll : RollType)
    → lacks 32 (roll_name roll) × (as_roll (roll_name roll) ≡ Some (Roll roll))
unfolding as_roll roll_named
roll-back rolls.KskRoll = (refl, refl)
roll-back rolls.KskDoubleDsRoll = (refl, refl)
roll-back rolls.ZskRoll = (refl, refl)
roll-back rolls.ZskDoubleSignatureRoll = (refl, refl)
roll-back rolls.CskRoll = (refl, refl)
roll-back rolls.AlgorithmRoll = (refl, refl)

-- the line of the call at this second says it
abbrev Says : Call → ℕ → Type 0
Says c n = IsLineOf (call_line (call_of c) n) c

-- what fields say
said-by : (line : List ℕ) (fields : List (List ℕ)) → fields_of line ≡ fields
    → says line ≡ option_and_then (λ x. said_after_word x.0 x.1) (word_at fields)
unfolding says
said-by line fields is = ap (λ l. option_and_then (λ x. said_after_word x.0 x.1) (word_at l)) is

-- ---- fields

-- one field more
more : (t x : List ℕ) → lacks 32 x → fields_of ((t ++ codes " ") ++ x) ≡ fields_of t ++ x ∷ []
more t x h =
    ap fields_of (append_assoc t (32 ∷ []) x) ∙ split-join (λ b. b == 32) t 32 x refl
    ∙ ap (λ l. fields_of t ++ l) (one-field x h)

-- a word and one field
two : (t x : List ℕ) → lacks 32 t → lacks 32 x → fields_of (t ++ 32 ∷ x) ≡ t ∷ x ∷ []
two t x ht hx = first-field t x ht ∙ ap (λ l. t ∷ l) (one-field x hx)

number-lacks : (n : ℕ) → n ≤ 18446744073709551615 → lacks 32 (decimal n)
number-lacks n small = digits-lack 32 n (omega arith) (omega (arith, small))

-- ---- reports, waits and ends of rolls

module _ (roll : RollType) (n : ℕ) (small : n ≤ 18446744073709551615) where
  -- a line of a word, the roll and a second
  wait-is : (t : List ℕ) (c : Call) → lacks 32 t → word_named t ≡ Some (call_says c).0
      → forms_of_word (call_says c).0 ≡ as_roll ∷ as_time ∷ []
      → says (((t ++ 32 ∷ roll_name roll) ++ codes " ") ++ decimal n)
      ≡ Some ((call_says c).0, Roll roll ∷ Moment (n * 1_000_000_000) ∷ [])
  wait-is t c h name forms =
      said-by _ _ (more (t ++ 32 ∷ roll_name roll) (decimal n) (number-lacks n small)
      ∙ ap (λ l. l ++ decimal n ∷ []) (two t (roll_name roll) h (roll-back roll).0))
      ∙ (rw (name, forms, (roll-back roll).1, time-back n small) refl)

  -- the same with a TTL before the second
  report-is : (t : List ℕ) (c : Call) (ttl : ℕ) → ttl ≤ 4294967295 → lacks 32 t
      → word_named t ≡ Some (call_says c).0
      → forms_of_word (call_says c).0 ≡ as_roll ∷ as_ttl ∷ as_time ∷ []
      → says (((((t ++ 32 ∷ roll_name roll) ++ codes " ") ++ decimal ttl) ++ codes " ")
      ++ decimal n)
      ≡ Some ((call_says c).0, Roll roll ∷ Number ttl ∷ Moment (n * 1_000_000_000) ∷ [])
  report-is t c ttl fits h name forms =
      let d = decimal ttl in let r = roll_name roll in
      let ttl-is = number-back 4294967295 ttl fits (omega arith) in
      said-by _ _ (more (((t ++ 32 ∷ r) ++ codes " ") ++ d) (decimal n) (number-lacks n small)
      ∙ ap (λ l. l ++ decimal n ∷ []) (more (t ++ 32 ∷ r) d (number-lacks ttl (omega (arith, fits)))
      ∙ ap (λ l. l ++ d ∷ []) (two t r h (roll-back roll).0)))
      ∙ (rw (name, forms, (roll-back roll).1, ttl-is, time-back n small) refl)

  done-back : Says (call.RollDone roll) n
  unfolding word_named
  done-back =
      said-by _ _ (two (codes "done") (roll_name roll) refl (roll-back roll).0)
      ∙ (rw (roll-back roll).1 refl)

-- ---- references

-- a script can name the key
abbrev pub IsNamed : List ℕ → Type 0
IsNamed q = is_reference q ≡ true

byte-lacks : (c b : ℕ) → (c == 32) ≡ true ⊎ (c == 44) ≡ true → is_reference_byte b ≡ true
    → not (b == c) ≡ true
byte-lacks c b is h = grind (arith, nat_tests)

reference-lacks : (c : ℕ) (q : List ℕ) → (c == 32) ≡ true ⊎ (c == 44) ≡ true → IsNamed q
    → lacks c q
unfolding is_reference
reference-lacks c q is h =
    let bytes = (and_parts _ _ h).1 in
    let each = AllPass-from_list_all is_reference_byte q bytes in
    list_all-from_AllPass (λ b. not (b == c)) q (λ k d within. byte-lacks c _ is (each k d within))

reference-back : (q : List ℕ) → IsNamed q → as_reference q ≡ Some (Reference q)
unfolding as_reference
reference-back q h = rw h refl

delete-back : (q : Bor (List ℕ)) (n : ℕ) → IsNamed q.now → Says (call.DeleteKey q) n
unfolding word_named
delete-back q n h =
    said-by _ _ (two (codes "delete") q.now refl (reference-lacks 32 q.now (inl refl) h))
    ∙ (rw (reference-back q.now h) refl)

-- ---- lists of references

abbrev pub AreNamed : List (List ℕ) → Type 0
AreNamed qs = list_all is_reference qs ≡ true

-- each of them after a comma
abbrev further : List (List ℕ) → List ℕ
further qs = flat_map (λ (r : List ℕ). codes "," ++ r) qs

list-cut : (q : List ℕ) (qs : List (List ℕ)) → IsNamed q → AreNamed qs
    → slice_split (λ b. b == 44) (q ++ further qs) ≡ q ∷ qs
list-cut q [] h hs =
    ap (slice_split (λ b. b == 44)) (append-nil q)
    ∙ slice_split_none (λ b. b == 44) q (none-of 44 q (reference-lacks 44 q (inr refl) h))
list-cut q (r ∷ rs) h hs =
    slice_split_at (λ b. b == 44) q 44 (r ++ further rs)
    (none-of 44 q (reference-lacks 44 q (inr refl) h)) refl
    ∙ ap (λ t. q ∷ t) (list-cut r rs (and_parts _ _ hs).0 (and_parts _ _ hs).1)

-- it isn't a single `-`
not-dash : (q : List ℕ) (qs : List (List ℕ)) → IsNamed q → AreNamed qs
    → bytes_eq (q ++ further qs) (codes "-") ≡ false
unfolding is_reference
not-dash q qs h hs = false_from_ne_true _ (λ t.
    let same : q ++ further qs ≡ codes "-" = (bytes_decides _ _).0 t in
    let parts : q ∷ qs ≡ codes "-" ∷ [] = sym (list-cut q qs h hs)
    ∙ ap (slice_split (λ b. b == 44)) same in
    let dash : q ≡ codes "-" = ap (λ l. slice_index_or l 0 []) parts in
    true≢false (sym (subst IsNamed dash h)))

list-back : (qs : List (List ℕ)) → AreNamed qs → as_list (list_text qs) ≡ Some (References qs)
unfolding as_list is_list references_of
list-back [] h = refl
list-back (q ∷ qs) h =
    let named = and_parts (is_reference q) (list_all is_reference qs) h in
    rw (not-dash q qs named.0 named.1, list-cut q qs named.0 named.1)
    (ap (λ (b : Bool). if b then Some (References (q ∷ qs)) else None) h)

list-lacks : (qs : List (List ℕ)) → AreNamed qs → lacks 32 (list_text qs)
list-lacks [] h = refl
list-lacks (q ∷ []) h =
    subst (lacks 32) (sym (append-nil q)) (reference-lacks 32 q (inl refl) (and_parts _ _ h).0)
list-lacks (q ∷ r ∷ rs) h = lack-append 32 q (44 ∷ list_text (r ∷ rs))
    (reference-lacks 32 q (inl refl) (and_parts _ _ h).0) (list-lacks (r ∷ rs) (and_parts _ _ h).1)

start-back : (roll : RollType) (olds news : Bor (List (Bor (List ℕ)))) (n : ℕ)
    → n ≤ 18446744073709551615 → AreNamed (map now olds.now) → AreNamed (map now news.now)
    → Says (call.StartRoll roll olds news (n * 1_000_000_000)) n
unfolding word_named
start-back roll olds news n small ho hn =
    let r = codes "start" ++ 32 ∷ roll_name roll in
    let o = list_text (map now olds.now) in let i = list_text (map now news.now) in
    let fields : fields_of (start_text roll (map now olds.now) (map now news.now) n)
    ≡ codes "start" ∷ roll_name roll ∷ o ∷ i ∷ decimal n ∷ [] =
    more ((((r ++ codes " ") ++ o) ++ codes " ") ++ i) (decimal n) (number-lacks n small)
    ∙ ap (λ l. l ++ decimal n ∷ []) (more ((r ++ codes " ") ++ o) i (list-lacks _ hn)
    ∙ ap (λ l. l ++ i ∷ []) (more r o (list-lacks _ ho)
    ∙ ap (λ l. l ++ o ∷ []) (two (codes "start") (roll_name roll) refl (roll-back roll).0))) in
    said-by _ _ fields
    ∙ (rw ((roll-back roll).1, list-back _ ho, list-back _ hn, time-back n small) refl)

-- ---- of the policy's calls

-- each call that is said at this second
abbrev pub IsSaidAt : keyset.Call → ℕ → Type 0
IsSaidAt (keyset.Report roll half ttl t) n = (t ≡ n * 1_000_000_000) × (ttl ≤ 4294967295)
IsSaidAt (keyset.Wait roll half t) n = t ≡ n * 1_000_000_000
IsSaidAt (keyset.RollDone roll) n = Unit {0}
IsSaidAt (keyset.StartRoll roll olds news t) n =
    (t ≡ n * 1_000_000_000) × AreNamed olds × AreNamed news
IsSaidAt (keyset.DeleteKey q) n = IsNamed q
IsSaidAt _ n = ⊥

pub call-back : (c : Call) (n : ℕ) → n ≤ 18446744073709551615 → IsSaidAt (call_of c) n → Says c n
unfolding word_named
call-back (call.Propagation1Complete roll ttl t) n small s =
    subst (λ t. Says (call.Propagation1Complete roll ttl t) n) (sym s.0)
    (report-is roll n small (codes "report1") (call.Propagation1Complete roll ttl t) ttl s.1 refl
    refl refl)
call-back (call.Propagation2Complete roll ttl t) n small s =
    subst (λ t. Says (call.Propagation2Complete roll ttl t) n) (sym s.0)
    (report-is roll n small (codes "report2") (call.Propagation2Complete roll ttl t) ttl s.1 refl
    refl refl)
call-back (call.CacheExpired1 roll t) n small s =
    subst (λ t. Says (call.CacheExpired1 roll t) n) (sym s)
    (wait-is roll n small (codes "wait1") (call.CacheExpired1 roll t) refl refl refl)
call-back (call.CacheExpired2 roll t) n small s =
    subst (λ t. Says (call.CacheExpired2 roll t) n) (sym s)
    (wait-is roll n small (codes "wait2") (call.CacheExpired2 roll t) refl refl refl)
call-back (call.RollDone roll) n small s = done-back roll n small
call-back (call.StartRoll roll olds news t) n small s =
    subst (λ t. Says (call.StartRoll roll olds news t) n) (sym s.0)
    (start-back roll olds news n small s.1 s.2)
call-back (call.DeleteKey q) n small s = delete-back q n s
call-back _ n small s = absurd s
