-- What to do next, by one text: a policy, a script, and notes whose last line asks.
use Rattle.std.specs.Prelude.{◌≡◌, ◌==◌, ◌||◌, ℕ, ◌++◌, ◌∷◌, Bool, false, not, List, [], length}
use Rattle.std.specs.{Prelude.codes, Prelude.Option, Prelude.Some, List.slice_split}
use Rattle.dnssec_script.specs.Script.{Value, Number, lines_of}
use Rattle.dnssec_network.specs.Text.{Questions.asked_by, Scripts.parts_of}
use Rattle.dnssec_policy.specs.Automatic.Answer.{AnswersNext}

-- ---- the question

-- what a question says: `next`, and the second that it asks about
abbrev pub as_next : List ℕ → Option (List Value)
as_next = asked_by (codes "next")

-- a text that no line feed ends has these lines, and this one last
abbrev pub IsLastLine : List ℕ → List ℕ → List ℕ → Type 0
IsLastLine text above last = slice_split (λ b. b == 10) text ≡ lines_of above ++ last ∷ []

-- the last line of these asks about this second, and the notes are the lines above it
pub record Asks (noted notes : List ℕ) (seconds : ℕ) : Type 0 where
  pub question : List ℕ
  pub lines : lines_of noted ≡ lines_of notes ++ question ∷ []
  pub asks : as_next question ≡ Some (Number seconds ∷ [])

-- ---- the text

-- there is something more than one empty line
abbrev pub has_more : List (List ℕ) → Bool
has_more [] = false
has_more (part ∷ parts) = not (length part == 0) || not (length parts == 0)

-- the parts are a policy, a script, and notes whose last line asks; the line is the answer
pub record AnswersParts (parts : List (List ℕ)) (line : List ℕ) : Type 0 where
  pub policy : List ℕ
  pub script : List ℕ
  pub noted : List ℕ
  pub more : List (List ℕ)
  pub are : parts ≡ policy ∷ script ∷ noted ∷ more
  pub end : has_more more ≡ false
  pub notes : List ℕ
  pub seconds : ℕ
  pub asks : Asks noted notes seconds
  pub answers : AnswersNext policy script notes seconds line

-- the parts are those of a text, which empty lines end
abbrev pub AnswersText : List ℕ → List ℕ → Type 0
AnswersText text line = AnswersParts (parts_of text) line
