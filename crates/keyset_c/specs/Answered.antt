-- What an answer that was written says of the run whose output it is, and what it leaves as it was.
use Rattle.std.specs.Prelude.{◌≡◌, ◌≢◌, ◌⊎◌, ◌<◌, ◌≤◌, ◌++◌, ℕ, List, codes, drop, length}
use Rattle.dnssec_run.specs.Plain.{IsPlain, StaysSafe}
use Rattle.dnssec_record.specs.Answer.{IsAnswerOf}

-- every run of the script whose output the text is stays safe, if its list is plain
abbrev pub StaysSafeIfPlain : List ℕ → List ℕ → Type 0
StaysSafeIfPlain script text = (a : IsAnswerOf script text) → StaysSafe a.name a.calls a.entries

-- and if its list is plain, the last line of the text says so
abbrev pub TextEndsSafe : List ℕ → List ℕ → Type 0
TextEndsSafe script text =
    (a : IsAnswerOf script text) → IsPlain a.name a.calls a.entries →
    (front : List ℕ) × (text ≡ front ++ codes "\nchain safe\n")

-- a text of which this is so has this length
abbrev pub AtLength : (List ℕ → Type 0) → ℕ → Type 0
AtLength IsText n = (text : List ℕ) × IsText text × (length text ≡ n)

-- `out` after an answer of this status, length and line. Answered: it fits, and what stands after
-- it is as it was. Short of room: it is longer. Without an answer nothing is written. A number that
-- a status has no use for is 0.
pub record Hands (status n line : ℕ) (old new : List ℕ) : Type 0 where
  pub fits : status ≡ 0 → n ≤ length new
  pub rest : status ≡ 0 → drop n new ≡ drop n old
  pub short : status ≡ 4 → length old < n
  pub silent : status ≢ 0 → new ≡ old
  pub no_length : status ≢ 0 → status ≢ 4 → n ≡ 0
  pub no_line : line ≡ 0

-- The same where a refusal, with the status 13, is written as an answer is.
pub record HandsText (status n line : ℕ) (old new : List ℕ) : Type 0 where
  pub fits : (status ≡ 0) ⊎ (status ≡ 13) → n ≤ length new
  pub rest : (status ≡ 0) ⊎ (status ≡ 13) → drop n new ≡ drop n old
  pub short : status ≡ 4 → length old < n
  pub silent : status ≢ 0 → status ≢ 13 → new ≡ old
  pub no_length : status ≡ 3 → n ≡ 0
  pub no_line : line ≡ 0
