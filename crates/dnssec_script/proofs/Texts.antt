-- A walk over a slice of texts: what is known after one text more.
use Rattle.std.proofs.Common.{◌≡◌, ℕ, ◌<◌, List, [], Bor, map}
use Rattle.std.proofs.Common.{length, get_or}
use Rattle.std.proofs.lemmas.List.{get_or-map, length-map}
use denote.Bor.{now}

-- what stands at a place of a slice without text
abbrev pub blank : Bor (List ℕ)
blank = record { ref_ptr = (0, 0); now = [] }

-- the text at a place
abbrev pub text_at : List (Bor (List ℕ)) → ℕ → List ℕ
text_at xs i = (get_or xs i blank).now

pub shown_at : (xs : List (Bor (List ℕ))) (i : ℕ) → i < length xs
    → get_or (map now xs) i [] ≡ text_at xs i
shown_at xs i within = get_or-map now xs i blank [] within

pub within_shown : (xs : List (Bor (List ℕ))) (i : ℕ) → i < length xs → i < length (map now xs)
within_shown xs i within = rw length-map within
