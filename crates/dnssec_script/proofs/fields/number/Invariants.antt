-- The number that the digits so far write.
use Rattle.std.proofs.Common.{◌≡◌, take, true}
use Rattle.std.specs.{Char.is_ascii_digit, List.list_all}
use Rattle.dnssec_script.specs.Script.{number_of}
use Rattle.dnssec_script.proofs.fields.number.Given as goal

abbrev pub invariant-loop-digit : goal.invariant-loop-digit
invariant-loop-digit l =
    (list_all is_ascii_digit (take l.digit-index l.text) ≡ true)
    × (l.number ≡ number_of (take l.digit-index l.text))
