use Rattle.std.proofs.Common.{◌≡◌, map, take}
use Rattle.dnssec_record.specs.Courses.{as_listed}
use Rattle.dnssec_record.proofs.courses.Courses.try_clone.Given as goal

-- the keys so far are copied
abbrev pub invariant-loop-key : goal.invariant-loop-key
invariant-loop-key l =
    map as_listed l.listed.items ≡ map as_listed (take l.key-index l.self.listed.items)
