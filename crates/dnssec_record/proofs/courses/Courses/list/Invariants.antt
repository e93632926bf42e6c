use Rattle.std.proofs.Common.{◌≡◌, ◌++◌, map, take}
use Rattle.dnssec_record.specs.Courses.{as_listed, listings}
use Rattle.dnssec_zone.specs.Start.{texts}
use Rattle.dnssec_record.proofs.courses.Courses.list.Given as goal

-- the references so far are listed
abbrev pub invariant-loop-reference : goal.invariant-loop-reference
invariant-loop-reference l = (l.self.ended ≡ l.initial.self.ended) ×
    (map as_listed l.self.listed.items ≡ map as_listed l.initial.self.listed.items
    ++ listings l.roll l.part (texts (take l.reference-index l.references)))
