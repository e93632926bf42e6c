-- The lines are due after the calls of the session.
use Rattle.dnssec_script.specs.Script.{lines_of}
use Rattle.dnssec_network.proofs.Texts.Reporting.{is_due_after}
use Rattle.dnssec_network.proofs.text.questions.answer_due.Goals as goal

pub returns : goal.returns
returns c =
    let resumed = c.in_ok-ran.ensures.ok in
    let ran = resumed.resumes in
    let so = ran.stands in
    let noted = c.in_ok-noted.noted in
    record {
      entries = ran.entries;
      is_due = is_due_after (lines_of c.args.script.now) (lines_of c.args.notes.now) ran.entries
          c.in_ok-ran.ran _ c.steps-steps.result c.in_ok-ran.moments noted c.args.seconds _ so
          c.keyset-keyset.ensures (c.steps-steps.ensures so.name so.calls ran.entries so.stands)
          resumed.moments c.in_ok-noted.ensures.ok
          c.in_ok-lines.ensures;
      had_memory = ran.had_memory;
    }
