-- Written so far is what the bytes so far print: for what a name displays.
use Rattle.std.proofs.Common.{flat_map, take}
use Rattle.std.specs.Fmt.{HasWritten, IsPlainFormatter}
use Rattle.dnssec_base.specs.NameText.{printed_byte}
use Rattle.dnssec_base.proofs.name.print.LabelDisplay.fmt.Given as goal

abbrev pub invariant-loop-byte : goal.invariant-loop-byte
invariant-loop-byte g l =
    IsPlainFormatter l.initial.f
    → HasWritten g.W.Write.write_str_gives l.initial.f
    (flat_map printed_byte (take l.byte-index l.byte-items)) l.f
