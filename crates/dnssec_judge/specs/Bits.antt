-- Sets of small numbers, as bits in words of 64.
use Rattle.std.specs.Prelude.{◌≡◌, ℕ, zero, suc, ◌<◌, ◌*◌, ◌^◌, ◌/◌, ◌%◌, Bool, true, false, ◌||◌}
use Rattle.std.specs.Prelude.{◌&&◌, not, nat_eq, List, ◌∷◌, get_or, length}
use Rattle.std.specs.Int.{bit_at, Bits.bit_and}
use Rattle.std.specs.{Prelude.Option, Prelude.None, Prelude.Some, Prelude.[], Global.Global}
use Rattle.std.specs.Arc.{arc_slice_items}
use Rattle.std.specs.declared.sync.ArcSlice.{ArcSlice}
use Rattle.std.specs.declared.vec.Vec.{Vec}
use Rattle.dnssec_judge.specs.declared.sets.held.{Bits.Bits, BitsDraft.BitsDraft}

-- the words after the first, if there are any
abbrev pub rest_of : Option (ArcSlice ℕ Global) → List ℕ
rest_of None = []
rest_of (Some rest) = arc_slice_items rest

-- the words of a set
abbrev pub words_of : Bits → List ℕ
words_of b = b.first ∷ rest_of b.rest

-- the words of a set that is written over another
abbrev pub rest_in : Option (Vec ℕ Global) → Bits → List ℕ
rest_in None base = rest_of base.rest
rest_in (Some words) base = words.items

abbrev pub drafted : Bits → BitsDraft → List ℕ
drafted base d = d.first ∷ rest_in d.rest base

-- one of them; all after the last are 0
abbrev pub word_at : List ℕ → ℕ → ℕ
word_at words i = get_or words i 0

-- the bit of a number is set in its word
abbrev pub in_word : ℕ → ℕ → Bool
in_word word n = nat_eq (bit_at word (n % 64)) 1

-- and in the words of a set
abbrev pub has_bit : List ℕ → ℕ → Bool
has_bit words n = in_word (word_at words (n / 64)) n

-- the number is in the set
abbrev pub has : Bits → ℕ → Bool
has b n = has_bit (words_of b) n

-- a number below another has the property
unfoldable pub any_below : (ℕ → Bool) → ℕ → Bool
any_below test zero = false
any_below test (suc n) = test n || any_below test n

-- the words have bits for the numbers below this
abbrev pub end_of : List ℕ → ℕ
end_of words = 64 * length words

-- a bit is set in all three
abbrev pub meet_three : List ℕ → List ℕ → List ℕ → Bool
meet_three words ones others =
    any_below (λ n. has_bit words n && (has_bit ones n && has_bit others n)) (end_of words)

-- a bit is set in both
abbrev pub meet : List ℕ → List ℕ → Bool
meet words others = meet_three words others others

-- no bit is set
abbrev pub has_none : List ℕ → Bool
has_none words = not (meet words words)

-- a number whose bit is set in both
abbrev pub Share : List ℕ → List ℕ → Type 0
Share words others = (n : ℕ) × (has_bit words n ≡ true) × (has_bit others n ≡ true)

-- and in all three
abbrev pub ShareAll : List ℕ → List ℕ → List ℕ → Type 0
ShareAll words ones others = (n : ℕ) × (has_bit words n ≡ true) × (has_bit ones n ≡ true)
    × (has_bit others n ≡ true)

-- ---- word by word

-- a word of 64 bits that isn't 0
abbrev pub HasSome : ℕ → Type 0
HasSome word = (0 < word) × (word < 2 ^ 64)

-- what two lists of words have in common at a place
abbrev pub common_at : List ℕ → List ℕ → ℕ → ℕ
common_at words others i = bit_and (word_at words i) (word_at others i)

-- and three
abbrev pub all_at : List ℕ → List ℕ → List ℕ → ℕ → ℕ
all_at words ones others i = bit_and (common_at words ones i) (word_at others i)
