-- The greatest moment of the calls up to each one.
use Rattle.std.specs.Prelude.{ℕ, zero, suc, List, [], ◌∷◌, ◌++◌, length, slice_get, Option, None}
use Rattle.dnssec_run.specs.declared.record.Entry.{Entry}
use Rattle.dnssec_run.specs.Safe.{time_at}

-- the times at the first positions of a record, so many of them
abbrev pub times_up_to : List Entry → ℕ → List ℕ
times_up_to entries zero = []
times_up_to entries (suc n) = times_up_to entries n ++ time_at entries (suc n) ∷ []

-- the times at all positions of a record: one for each call
abbrev pub moments_of : List Entry → List ℕ
moments_of entries = times_up_to entries (length entries)

-- the time at the last of them: 0 if there is none
abbrev pub latest_of : List Entry → ℕ
latest_of entries = time_at entries (length entries)

-- the time at a call, if it was made; calls count from 1
abbrev pub moment_of_call : List ℕ → ℕ → Option ℕ
moment_of_call moments zero = None
moment_of_call moments (suc n) = slice_get moments n
