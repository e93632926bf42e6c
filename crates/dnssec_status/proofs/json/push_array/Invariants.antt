-- What was written since the first element.
use Rattle.std.proofs.Common.{◌≡◌, ◌++◌, take}
use Rattle.dnssec_status.specs.Json.{further_json}
use Rattle.dnssec_status.proofs.json.push_array.Given as goal

abbrev pub invariant-loop-element : goal.invariant-loop-element
invariant-loop-element g l =
    l.out.items ≡ l.initial.out.items
    ++ further_json (g.W.Writer.json l.writer) (take l.element-index l.rest)
