-- Each key that is left is the one at its reference.
use Rattle.std.proofs.Common.{◌≡◌, Some, String, string_bytes}
use Rattle.std.specs.{List.All, Global.Global}
use Rattle.std.specs.HashMap as hash
use Rattle.dnssec_key.specs.Key.{KeyParts}
use Rattle.dnssec_run.proofs.adds.seek.Given as goal

abbrev pub invariant-loop-found : goal.invariant-loop-found
invariant-loop-found l = All (λ (e : String Global × KeyParts).
    hash.get_by_text l.fn.keys (string_bytes e.0) ≡ Some e.1) l.found-iterator
