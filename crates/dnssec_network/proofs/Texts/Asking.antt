-- Questions among lines of notes, with one line more.
use Rattle.std.proofs.Common.{◌≡◌, ℕ, List, [], ◌∷◌, ◌++◌, Option, None, Some, ap, sym, ◌∙◌}
use Rattle.std.proofs.Common.{append_assoc, refl, true}
use Rattle.std.proofs.lemmas.{Bool.true≢false, List.append-nil, List.Elements.filter-append}
use Rattle.std.proofs.lemmas.Slice.Zip.{all_zipped_more}
use Rattle.std.specs.{List.AllZip, Option.is_some, Prelude.IsSome, Prelude.is_none}
use Rattle.dnssec_network.specs.Notes.{NotesParts}
use Rattle.dnssec_run.specs.declared.record.Entry.{Entry}
use Rattle.dnssec_script.specs.Script.{Number, Value}
use Rattle.dnssec_network.specs.Text.Due.{IsDueAfter, Question}
use Rattle.dnssec_network.specs.Text.Questions.{ComesOf, HasAnswered, IsAnswerFault, as_question}
use Rattle.dnssec_network.specs.Text.Questions.{notes_among, question_at, questions_after}
use Rattle.dnssec_network.specs.Text.Questions.{questions_among}
use Rattle.dnssec_network.specs.declared.text.fault.LineFault.TheVariants.{OutOfMemory}

-- one line more says one question more, or none
questions_more : (above lines : List (List ℕ)) (line : List ℕ)
    → questions_after above (lines ++ line ∷ [])
    ≡ questions_after above lines ++ question_at (above ++ lines) (as_question line)
questions_more above [] line =
    append-nil (question_at above (as_question line))
    ∙ ap (λ ls. question_at ls (as_question line)) (sym (append-nil above))
questions_more above (l ∷ ls) line =
    let here = question_at above (as_question l) in
    let rest = questions_after (above ++ l ∷ []) ls in
    ap (λ qs. here ++ qs) (questions_more (above ++ l ∷ []) ls line)
    ∙ ap (λ (ks : List (List ℕ)). here ++ (rest ++ question_at ks (as_question line)))
    (append_assoc above (l ∷ []) ls)
    ∙ sym (append_assoc here rest (question_at (above ++ l ∷ ls) (as_question line)))

-- a line that is no question is of the notes
notes_more : (lines : List (List ℕ)) (line : List ℕ) → as_question line ≡ None
    → notes_among (lines ++ line ∷ []) ≡ notes_among lines ++ line ∷ []
notes_more lines line none =
    filter-append (λ l. is_none (as_question l)) lines (line ∷ []) ∙ rw none refl

same_notes : (lines : List (List ℕ)) (line : List ℕ) (second : ℕ)
    → as_question line ≡ Some (Number second ∷ [])
    → notes_among (lines ++ line ∷ []) ≡ notes_among lines
same_notes lines line second asks =
    filter-append (λ l. is_none (as_question l)) lines (line ∷ [])
    ∙ rw asks (append-nil (notes_among lines))

-- what an answer is after a run of the script
abbrev Answers : List (List ℕ) → List Entry → Question → List ℕ → Type 0
Answers script entries question text =
    IsDueAfter script question.notes entries question.seconds text

module _ (script : List (List ℕ)) (entries : List Entry) (lines : List (List ℕ)) (line : List ℕ)
    (old new : Option NotesParts) (texts : List (List ℕ)) where
  -- it is taken
  pub note_answered : HasAnswered script entries lines old texts
      → ComesOf script entries (notes_among lines) line None new
      → HasAnswered script entries (lines ++ line ∷ []) new texts
  note_answered so comes = record {
    taken = rw (notes_more lines line comes.0) comes.1;
    answers = rw (questions_more [] lines line, comes.0, append-nil) so.answers;
  }

  -- it is answered
  pub question_answered : (text : List ℕ) → HasAnswered script entries lines old texts
      → ComesOf script entries (notes_among lines) line (Some text) new
      → HasAnswered script entries (lines ++ line ∷ []) new (texts ++ text ∷ [])
  question_answered text so comes =
      let question : Question = record { notes = notes_among lines; seconds = comes.0 } in
      record {
        taken = rw (same_notes lines line comes.0 comes.1) comes.2;
        answers = rw (questions_more [] lines line, comes.1)
            (all_zipped_more (Answers script entries) (questions_among lines) texts question text
            so.answers comes.3);
      }

-- memory may run out for an answer, if there are notes
pub memory_ended : (moments : List ℕ) (noted : Option NotesParts) (asked : Option (List Value))
    (line : List ℕ) → true ≡ is_some asked → IsSome noted
    → IsAnswerFault moments noted asked line OutOfMemory
memory_ended moments noted (Some said) line asks begun = begun
memory_ended moments noted None line asks begun = absurd (true≢false asks)

-- the same of all answers
pub zip_weaker : {A B : Type 0} (R S : A → B → Type 0) (xs : List A) (ys : List B)
    → ((x : A) (y : B) → R x y → S x y) → AllZip R xs ys → AllZip S xs ys
zip_weaker R S [] [] weaker zip = tt
zip_weaker R S [] (y ∷ ys) weaker zip = zip
zip_weaker R S (x ∷ xs) [] weaker zip = zip
zip_weaker R S (x ∷ xs) (y ∷ ys) weaker zip =
    (weaker x y zip.0, zip_weaker R S xs ys weaker zip.1)
