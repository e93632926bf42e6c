-- What a device answers to a read or a write.
use Rattle.std.specs.Prelude.{◌≡◌, ℕ, ◌+◌, ◌<◌, List, length, Result, Ok, Err, IfOk}

-- a fault, and nothing else, adds one to the number of faults
abbrev pub Counts : {T E : Type 0} → Result T E → ℕ → ℕ → Type 0
Counts (Ok _) old new = new ≡ old
Counts (Err _) old new = new ≡ old + 1

-- at least one byte is taken, if there is one
abbrev pub TakesSome : {E : Type 0} → Result ℕ E → List ℕ → Type 0
TakesSome result piece = IfOk result (λ n. 0 < length piece → 0 < n)
