-- Notes, line by line: what is noted after one more line.
use Rattle.std.proofs.Common.{List, None, Option, Some, [], ap, refl, sym, ℕ, ◌++◌}
use Rattle.std.proofs.Common.{◌∙◌, ◌∷◌, ◌≡◌, ◌+◌, ◌-◌, ◌≤◌, ◌==◌, Bool, true, false, arith, length}
use Rattle.std.proofs.Common.{if◌then◌else◌, take}
use Rattle.std.proofs.lemmas.List.{length-take-le, Splits.length-slice_split}
use Rattle.std.{proofs.lemmas.List.Sums.count_by-le-length, specs.Io.BufRead.ends_with_byte}
use Rattle.dnssec_script.specs.Script.{lines_of, without_end}
use Rattle.std.proofs.lemmas.{List.append-nil, List.append_assoc, List.map-append, Option.none-some}
use Rattle.std.{proofs.lemmas.Option.same_Some, specs.Option.option_map}
use Rattle.dnssec_network.specs.{Notes.NotesParts, Notes.refusal, declared.fact.Fact.Fact}
use Rattle.dnssec_network.specs.Text.Reading.{AreFacts, AreNotes, AreTaken, HasLine, HasTaken}

-- one fact more is taken
taken-more : (moments : List ℕ) (old facts : List Fact) (fact : Fact) → AreTaken moments old facts
    → refusal moments (old ++ facts) fact ≡ None → AreTaken moments old (facts ++ fact ∷ [])
taken-more moments old [] fact taken here = (rw (append-nil old) at here, tt)
taken-more moments old (f ∷ facts) fact taken here = (
  taken.0,
  taken-more moments (old ++ f ∷ []) facts fact taken.1 (rw (append_assoc old (f ∷ []) facts) here),
)

-- one line more
pub facts-more : (moments : List ℕ) (lines : List (List ℕ)) (line : List ℕ) (old new : NotesParts)
    → HasLine moments old line new → AreFacts moments lines old.facts
    → AreFacts moments (lines ++ line ∷ []) new.facts
facts-more moments lines line old new has are = rw has.notes (record {
  said = simp (map-append, has.said, are.said);
  taken = taken-more moments [] old.facts has.fact are.taken has.taken;
})

-- a text has at most one line more than bytes
shorter : (is_cut : Bool) (text : List ℕ)
    → length (if is_cut then take (length text - 1) text else text) ≤ length text
shorter true text = omega (arith, length-take-le (length text - 1) text (omega arith))
shorter false text = omega arith

pub lines-fit : (text : List ℕ) → length (lines_of text) ≤ length text + 1
lines-fit text =
    let feed = λ (b : ℕ). b == 10 in
    let long : length (without_end text) ≤ length text = shorter (ends_with_byte 10 text) text in
    omega (
      arith,
      length-slice_split feed (without_end text),
      count_by-le-length feed (without_end text),
    )

-- ---- beside a session

-- what is taken are the notes
pub are-notes : (n : List ℕ) (lines : List (List ℕ)) (noted : NotesParts)
    → HasTaken n lines (Some noted) → AreNotes n lines noted.before noted.facts
are-notes n [] noted taken = absurd (none-some noted (sym taken))
are-notes n (first ∷ lines) noted taken = rw (same_Some noted taken.0 taken.1) taken.2

pub taken-line : (moments n : List ℕ) (lines : List (List ℕ)) (line : List ℕ) (old new : NotesParts)
    → moments ≡ n → HasLine moments old line new → HasTaken n lines (Some old)
    → HasTaken n (lines ++ line ∷ []) (Some new)
taken-line moments n [] line old new same has taken = absurd (none-some old (sym taken))
taken-line moments n (first ∷ lines) line old new same has taken =
    let are = are-notes n (first ∷ lines) old taken in (
      new,
      refl,
      (rw has.notes are.0, facts-more n lines line old new (rw same at has) are.1),
    )

-- the value of the box that is kept
pub shown : {B : Type 0} (value : B → NotesParts) (kept : Option B) (b : B)
    (now : Option NotesParts) (noted : NotesParts) → option_map value kept ≡ now → kept ≡ Some b
    → noted ≡ value b → now ≡ Some noted
shown value kept b now noted view is same = sym view ∙ ap (option_map value) is ∙ ap Some (sym same)
