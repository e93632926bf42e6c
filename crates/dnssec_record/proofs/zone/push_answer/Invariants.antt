-- What was written so far.
use Rattle.std.proofs.Common.{◌≡◌, ◌++◌, take, codes, string_bytes}
use Rattle.dnssec_record.specs.Output.{actions_text}
use Rattle.dnssec_record.proofs.zone.push_answer.Given as goal

abbrev pub invariant-loop-action : goal.invariant-loop-action
invariant-loop-action l =
    string_bytes l.text ≡ string_bytes l.fn.text ++ codes "ok"
    ++ actions_text (take l.action-index l.action-items)
