-- The parts so far are kept.
use Rattle.std.proofs.Common.{◌≡◌, map}
use denote.Bor.{now}
use Rattle.dnssec_script.proofs.fields.ReferenceList.texts.Given as goal

abbrev pub invariant-loop-part : goal.invariant-loop-part
invariant-loop-part l = map now l.references.items ≡ map now l.yielded
