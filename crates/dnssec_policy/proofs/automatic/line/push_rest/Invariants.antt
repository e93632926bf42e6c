-- The references so far.
use Rattle.std.proofs.Common.{◌≡◌, ◌++◌, List, codes, string_bytes, take, ℕ}
use denote.Ref.{Bor}
use Rattle.std.specs.List.{flat_map}
use Rattle.dnssec_policy.proofs.automatic.line.push_rest.Given as goal

abbrev pub invariant-loop-reference : goal.invariant-loop-reference
invariant-loop-reference l =
    string_bytes l.text ≡ string_bytes l.initial.text
    ++ flat_map (λ (r : Bor (List ℕ)). codes "," ++ r.now) (take l.reference-index l.references)
