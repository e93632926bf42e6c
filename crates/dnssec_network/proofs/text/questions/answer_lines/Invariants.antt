-- The lines so far are taken and answered.
use Rattle.std.proofs.Common.{◌≡◌, ℕ, List, map, take}
use Rattle.std.specs.Prelude.{string_bytes}
use Rattle.dnssec_record.specs.Session.{Stands}
use Rattle.dnssec_run.specs.{Moments.moments_of, declared.record.Entry.Entry}
use Rattle.dnssec_network.specs.Text.Questions.{HasAnswered}
use denote.Bor.{now}
use Rattle.dnssec_network.proofs.text.questions.answer_lines.Given as goal

abbrev pub invariant-loop-index : goal.invariant-loop-index
invariant-loop-index l =
    (script : List (List ℕ)) (entries : List Entry) → Stands script entries l.session →
    l.moments ≡ moments_of entries →
    HasAnswered script entries (take l.index (map now l.lines)) l.notes
    (map string_bytes l.answers.items)
