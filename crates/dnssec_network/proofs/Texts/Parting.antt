-- The parts of a text, its scripts and their answers, with one step more.
use Rattle.std.proofs.Common.{◌≡◌, ◌∙◌, ℕ, ◌+◌, ◌-◌, ◌<◌, ◌≤◌, ◌++◌, ◌&&◌, Bool, true, false}
use Rattle.std.proofs.Common.{List, [], ◌∷◌, ap, arith, append_assoc, drop, get_or, length, map}
use Rattle.std.proofs.Common.{refl, subst, sym, take}
use Rattle.std.specs.Prelude.{◌==◌, ◌||◌, not}
use Rattle.std.specs.List.{flat_map, join_by, slice_range}
use Rattle.std.proofs.{Math.ListN.drop_of_length-le, lemmas.Bool.and_parts, lemmas.Bool.ne_eqb}
use Rattle.std.proofs.lemmas.List.{append-nil, drop_more, get_or-drop, length-drop, take_more}
use Rattle.std.proofs.lemmas.List.{get_or-map, length-map, take_all, take_rest}
use Rattle.std.proofs.lemmas.{Grind.flat_map-append, List.Folds.flat_map-map}
use Rattle.std.proofs.lemmas.Slice.Zip.{all_zipped_more}
use Rattle.dnssec_record.specs.declared.session.Session.{Session}
use Rattle.dnssec_script.{specs.Script.lines_of, proofs.Texts.blank}
use Rattle.dnssec_network.specs.Text.Questions.{IsAnswersFault}
use Rattle.dnssec_network.specs.Text.Scripts.{AnswersEach, AnswersOne, IsUnanswered}
use Rattle.dnssec_network.specs.Text.Scripts.{ScriptWithNotes, as_noted, no_script, parts_after}
use Rattle.dnssec_network.specs.Text.Scripts.{scripts_after}
use Rattle.dnssec_network.specs.declared.text.fault.NotesFault.{NotesFault}
use Rattle.dnssec_network.specs.declared.text.fault.NotesFault.TheVariants.{Malformed, Refused}
use Rattle.dnssec_network.specs.declared.text.fault.NotesFault.TheVariants.{OutOfMemory}
use Rattle.dnssec_network.specs.declared.text.scripts.ScriptWithNotes as code

-- ---- bytes

-- a slice with one byte more
range_more : (text : List ℕ) (from i : ℕ) → from ≤ i → i < length text
    → slice_range text from (i + 1) ≡ slice_range text from i ++ get_or text i 0 ∷ []
range_more text from i below within =
    let long : i - from < length (drop from text) = omega (arith, length-drop from text) in
    let next : i + 1 - from ≡ i - from + 1 = omega arith in
    let place : from + (i - from) ≡ i = omega arith in
    ap (λ n. take n (drop from text)) next ∙ take_more (drop from text) (i - from) 0 long
    ∙ ap (λ b. take (i - from) (drop from text) ++ b ∷ [])
    (get_or-drop from text (i - from) 0 ∙ ap (λ n. get_or text n 0) place)

-- a slice without a byte
range_none : (text : List ℕ) (i : ℕ) → slice_range text i i ≡ []
range_none text i =
    let none : i - i ≡ 0 = omega arith in ap (λ n. take n (drop i text)) none

-- ---- parts

module _ (text : List ℕ) (from i : ℕ) (begins : Bool) (parts all : List (List ℕ))
    (so : all ≡ parts ++ parts_after begins (slice_range text from i) (drop i text)) where
  -- the next byte is one of the part
  pub part_goes_on : from ≤ i → i < length text → (begins && (get_or text i 0 == 10)) ≡ false
      → all ≡ parts ++ parts_after (get_or text i 0 == 10) (slice_range text from (i + 1))
      (drop (i + 1) text)
  part_goes_on below within stays =
      let part = slice_range text from i in
      let here : parts_after begins part (drop i text) ≡ parts_after (get_or text i 0 == 10)
      (part ++ get_or text i 0 ∷ []) (drop (i + 1) text) =
      ap (parts_after begins part) (drop_more text i 0 within) ∙ rw stays refl in
      so ∙ ap (λ ps. parts ++ ps) (here
      ∙ ap (λ p. parts_after (get_or text i 0 == 10) p (drop (i + 1) text))
      (sym (range_more text from i below within)))

  -- it ends the part
  pub part_ends : i < length text → (begins && (get_or text i 0 == 10)) ≡ true
      → all ≡ (parts ++ slice_range text from i ∷ []) ++ parts_after (get_or text i 0 == 10)
      (slice_range text (i + 1) (i + 1)) (drop (i + 1) text)
  part_ends within ends =
      let part = slice_range text from i in
      let rest = parts_after true [] (drop (i + 1) text) in
      let here : parts_after begins part (drop i text) ≡ part ∷ rest =
      ap (parts_after begins part) (drop_more text i 0 within) ∙ rw ends refl in
      let feed : (get_or text i 0 == 10) ≡ true = (and_parts begins _ ends).1 in
      let after : rest ≡ parts_after (get_or text i 0 == 10)
      (slice_range text (i + 1) (i + 1)) (drop (i + 1) text) =
      ap (λ b. parts_after b [] (drop (i + 1) text)) (sym feed)
      ∙ ap (λ p. parts_after (get_or text i 0 == 10) p (drop (i + 1) text))
      (sym (range_none text (i + 1))) in
      so ∙ ap (λ ps. parts ++ ps) here ∙ sym (append_assoc parts (part ∷ []) rest)
      ∙ ap (λ ps. (parts ++ part ∷ []) ++ ps) after

  -- no byte is left, so it is the last part
  pub part_last : length text ≤ i → all ≡ parts ++ slice_range text from (length text) ∷ []
  part_last whole =
      let none : drop i text ≡ [] = drop_of_length-le text whole in
      let rest : slice_range text from i ≡ drop from text =
      take_all (i - from) (drop from text) (omega (arith, length-drop from text)) in
      so ∙ ap (λ bs. parts ++ parts_after begins (slice_range text from i) bs) none
      ∙ ap (λ p. parts ++ p ∷ []) (rest ∙ sym (take_rest text from))

-- ---- scripts

-- the script of two parts
abbrev pub pair_at : List (List ℕ) → ℕ → ScriptWithNotes
pair_at ps at = record { script = get_or ps at []; notes = get_or ps (at + 1) [] }

-- that of the last part
abbrev pub last_at : List (List ℕ) → ℕ → ScriptWithNotes
last_at ps at = record { script = get_or ps at []; notes = [] }

left_last : (ps : List (List ℕ)) (at : ℕ) → at < length ps → length ps ≤ at + 1
    → drop at ps ≡ get_or ps at [] ∷ []
left_last ps at within last =
    drop_more ps at [] within
    ∙ ap (λ qs. get_or ps at [] ∷ qs) (drop_of_length-le ps last)

module _ (ps : List (List ℕ)) (at : ℕ) (before all : List ScriptWithNotes)
    (so : all ≡ before ++ scripts_after (at == 0) (drop at ps)) where
  -- the scripts with one more
  pub pair_more : at + 1 < length ps
      → all ≡ (before ++ pair_at ps at ∷ []) ++ scripts_after (at + 2 == 0) (drop (at + 2) ps)
  pair_more within =
      let here : at < length ps = omega arith in
      let two : at + 1 + 1 ≡ at + 2 = omega arith in
      let rest = scripts_after false (drop (at + 2) ps) in
      let left : drop at ps ≡ get_or ps at [] ∷ get_or ps (at + 1) [] ∷ drop (at + 2) ps =
      drop_more ps at [] here
      ∙ ap (λ qs. get_or ps at [] ∷ qs)
      (drop_more ps (at + 1) [] within
      ∙ ap (λ n. get_or ps (at + 1) [] ∷ drop n ps) two) in
      let later : (at + 2 == 0) ≡ false =
      ne_eqb (at + 2) 0 (λ (e : at + 2 ≡ 0). omega arith) in
      so ∙ ap (λ qs. before ++ scripts_after (at == 0) qs) left
      ∙ sym (append_assoc before (pair_at ps at ∷ []) rest)
      ∙ ap (λ b. (before ++ pair_at ps at ∷ []) ++ scripts_after b (drop (at + 2) ps))
      (sym later)

  -- no part is left
  pub pair_none : length ps ≤ at → before ≡ all
  pair_none whole =
      let none : drop at ps ≡ [] = drop_of_length-le ps whole in
      sym (so ∙ ap (λ qs. before ++ scripts_after (at == 0) qs) none ∙ append-nil before)

  -- one is left, and it is a script
  pub pair_last : at < length ps → length ps ≤ at + 1
      → ((at == 0) || not (length (get_or ps at []) == 0)) ≡ true
      → before ++ last_at ps at ∷ [] ≡ all
  pair_last within last is_one =
      sym (so ∙ ap (λ qs. before ++ scripts_after (at == 0) qs) (left_last ps at within last)
      ∙ rw is_one refl)

  -- one is left, and it is none
  pub pair_ended : at < length ps → length ps ≤ at + 1
      → ((at == 0) || not (length (get_or ps at []) == 0)) ≡ false → before ≡ all
  pair_ended within last is_none =
      sym (so ∙ ap (λ qs. before ++ scripts_after (at == 0) qs) (left_last ps at within last)
      ∙ rw is_none (append-nil before))

-- ---- answers

-- the script at a place, with its notes
abbrev pub blank_noted : code.ScriptWithNotes
blank_noted = record { script = blank; notes = blank }

pub noted_at : (xs : List code.ScriptWithNotes) (i : ℕ) → i < length xs
    → get_or (map as_noted xs) i no_script ≡ as_noted (get_or xs i blank_noted)
noted_at xs i within = get_or-map as_noted xs i blank_noted no_script within

pub noted_within : (xs : List code.ScriptWithNotes) (i : ℕ) → i < length xs
    → i < length (map as_noted xs)
noted_within xs i within = rw length-map within

-- the answers to one script more
pub each_more : (scripts : List ScriptWithNotes) (noted : ScriptWithNotes)
    (texts more : List (List ℕ)) → AnswersEach scripts texts → AnswersOne noted more
    → AnswersEach (scripts ++ noted ∷ []) (texts ++ more)
each_more scripts noted texts more so here = record {
  answers = so.answers ++ more ∷ [];
  each = all_zipped_more AnswersOne scripts so.answers noted more so.each here;
  all = ap (λ ts. ts ++ more) so.all
      ∙ sym (flat_map-append (λ (one : List (List ℕ)). one) so.answers (more ∷ [])
      ∙ ap (λ ts. flat_map (λ (one : List (List ℕ)). one) so.answers ++ ts) (append-nil more));
}

-- texts are joined by their bytes
pub joined_bytes : {X : Type 0} (f : X → List ℕ) (between : List ℕ) (xs : List X)
    → join_by f between xs ≡ join_by (λ x. x) between (map f xs)
joined_bytes f between [] = refl
joined_bytes f between (x ∷ xs) =
    ap (λ t. f x ++ t) (sym (flat_map-map (λ y. between ++ y) f xs))

-- ---- faults

-- lines that are not answered are those of notes that are not
pub unanswered : (session : Session) (moments : List ℕ) (lines : List (List ℕ)) (notes : List ℕ)
    (fault : NotesFault) → lines ≡ lines_of notes → IsAnswersFault session moments lines fault
    → IsUnanswered session moments notes fault
unanswered session moments lines notes (Malformed n) same is =
    subst (λ (ls : List (List ℕ)). IsAnswersFault session moments ls (Malformed n)) same is
unanswered session moments lines notes (Refused n cause) same is =
    subst (λ (ls : List (List ℕ)). IsAnswersFault session moments ls (Refused n cause)) same is
unanswered session moments lines notes OutOfMemory same is = tt
