-- The reports that a judge keeps of one kind of sets: those that weren't over yet.
use Rattle.std.specs.Prelude.{◌≡◌, ◌<◌, ◌*◌, ℕ, Bool, List, [], ◌∷◌, max, nat_lt, not}
use Rattle.std.specs.Prelude.{if◌then◌else◌, Option, None, Some}
use Rattle.dnssec_judge.specs.declared.window.reports.Due.{Due}

-- a report is over at a time: its TTL has passed since its moment
abbrev pub is_over_at : ℕ → Due → Bool
is_over_at time d = not (nat_lt time d.over)

-- no moment is as late as this
abbrev pub most : ℕ
most = 18_446_744_073_709_551_616 * 1_000_000_000

-- what a report retires at a time: all below its base, once it is over
abbrev pub over : Due → ℕ → ℕ
over d time = if nat_lt time d.over then 0 else d.base

abbrev pub over_any : Option Due → ℕ → ℕ
over_any None time = 0
over_any (Some d) time = over d time

-- and what reports retire
abbrev pub over_all : List Due → ℕ → ℕ
over_all [] time = 0
over_all (d ∷ ds) time = max (over_all ds time) (over d time)

-- the floor at a time, by reports that weren't over yet
abbrev pub floor_with : ℕ → List Due → ℕ → ℕ
floor_with floor ds time = max floor (over_all ds time)

-- none of the reports is over before this moment
abbrev pub IsNoneBefore : ℕ → List Due → Type 0
IsNoneBefore next ds = (time : ℕ) → time < next → over_all ds time ≡ 0
