-- The questions of the scripts so far are answered.
use Rattle.std.{proofs.Common.map, proofs.Common.take, specs.Prelude.string_bytes}
use Rattle.dnssec_network.specs.Text.Scripts.{AnswersEach, as_noted}
use Rattle.dnssec_network.proofs.text.scripts.answer_each.Given as goal

abbrev pub invariant-loop-noted : goal.invariant-loop-noted
invariant-loop-noted l =
    AnswersEach (take l.noted-index (map as_noted l.scripts)) (map string_bytes l.answers.items)
