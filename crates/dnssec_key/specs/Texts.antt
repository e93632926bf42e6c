-- The texts that a user reads: the names of rolls, and the states of roles. No RFC says how they
-- read.
use Rattle.std.specs.Prelude.{ℕ, List, codes, ◌≡◌, ◌≢◌, Result, MatchResult, Bool, [], ◌∷◌, filter}
use Rattle.std.specs.Prelude.{map, true, false, ◌++◌}
use Rattle.std.specs.List.{join_by}
use Rattle.dnssec_base.specs.declared.error.Error.{Error}
use Rattle.dnssec_base.specs.declared.error.Error.TheVariants.{UnknownRollType}
use Rattle.dnssec_key.specs.declared.roll.RollType.{RollType}
use Rattle.dnssec_key.specs.declared.roll.RollType.TheVariants.{KskRoll, KskDoubleDsRoll, ZskRoll}
use Rattle.dnssec_key.specs.declared.roll.RollType.TheVariants.{ZskDoubleSignatureRoll, CskRoll}
use Rattle.dnssec_key.specs.declared.roll.RollType.TheVariants.{AlgorithmRoll}
use Rattle.dnssec_key.specs.State.{Flags}

-- ---- rolls

-- the name of a roll in a script
abbrev pub roll_name : RollType → List ℕ
roll_name KskRoll = codes "ksk-roll"
roll_name KskDoubleDsRoll = codes "ksk-double-ds-roll"
roll_name ZskRoll = codes "zsk-roll"
roll_name ZskDoubleSignatureRoll = codes "zsk-double-signature-roll"
roll_name CskRoll = codes "csk-roll"
roll_name AlgorithmRoll = codes "algorithm-roll"

-- the roll that has this name, or the refusal if none has it
abbrev pub NamesRoll : List ℕ → Result RollType Error → Type 0
NamesRoll text r = MatchResult r (λ roll. text ≡ roll_name roll)
    (λ e. (e ≡ UnknownRollType) × ((roll : RollType) → text ≢ roll_name roll))

-- ---- states

-- the flags that the text names, each with its word
abbrev pub named_flags : Flags → List (Bool × List ℕ)
named_flags s =
    (s.old, codes "Old") ∷ (s.signer, codes "Signer") ∷ (s.present, codes "Present")
    ∷ (s.at_parent, codes "At Parent") ∷ []

-- the words of the flags that are set
abbrev pub set_words : List (Bool × List ℕ) → List (List ℕ)
set_words flags = map (λ (f : Bool × List ℕ). f.1) (filter (λ f. f.0) flags)

-- words with a comma and a space between each two
abbrev pub comma_list : List (List ℕ) → List ℕ
comma_list words = join_by (λ w. w) (codes ", ") words

-- the word at the end, from the flags old, signer and present
abbrev pub ending : Bool → Bool → Bool → List ℕ
ending false false false = codes "(Future)"
ending false false true = codes " (Incoming)"
ending false true true = codes " (Active)"
ending true true true = codes " (Leaving)"
ending true false true = codes " (Retired)"
ending true false false = codes " (Stale)"
ending _ true false = []

-- the words of the flags that are set, and then the ending
abbrev pub state_text : Flags → List ℕ
state_text s = comma_list (set_words (named_flags s)) ++ ending s.old s.signer s.present
