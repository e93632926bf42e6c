-- What is written so far and the decimals of what is left are all the decimals.
use Rattle.std.proofs.Common.{◌≡◌, ℕ, ◌^◌, ◌<◌, List, ◌++◌}
use Rattle.std.specs.Fmt.{HasWritten, IsPlainFormatter}
use Rattle.dnssec_base.specs.ErrorTexts.{in_table, last_digits, without_end_zeros}
use Rattle.dnssec_base.proofs.text.write_decimals.Given as goal

abbrev pub invariant-decimals : goal.invariant-decimals
invariant-decimals g l =
    (k : ℕ) × (l.place ≡ 10 ^ k) × (l.rest < l.place) × (done : List ℕ)
    × (done ++ without_end_zeros (last_digits k l.rest)
    ≡ without_end_zeros (last_digits (in_table l.fn.unit).places l.fn.rest))
    × (IsPlainFormatter l.initial.f → HasWritten g.W.Write.write_str_gives l.initial.f done l.f)

abbrev pub decreases-decimals : goal.decreases-decimals
decreases-decimals g l = l.place
