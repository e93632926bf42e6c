-- A set of numbers as bits in words of 64.
use Rattle.std.specs.Prelude.{ℕ, ◌/◌, ◌%◌, Bool, List, nat_eq, get_or}
use Rattle.std.specs.Int.{bit_at}

-- the bit of the number is set
abbrev pub is_set : List ℕ → ℕ → Bool
is_set words n = nat_eq (bit_at (get_or words (n / 64) 0) (n % 64)) 1
