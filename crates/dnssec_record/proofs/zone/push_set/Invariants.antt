-- What was written so far.
use Rattle.std.proofs.Common.{◌≡◌, ◌++◌, take, codes, string_bytes}
use Rattle.std.specs.List.{flat_map}
use Rattle.dnssec_record.proofs.zone.push_set.Given as goal

abbrev pub invariant-loop-key : goal.invariant-loop-key
invariant-loop-key l =
    string_bytes l.text
    ≡ string_bytes l.initial.text
    ++ flat_map (λ k. codes "," ++ string_bytes k.reference) (take l.key-index l.others)
