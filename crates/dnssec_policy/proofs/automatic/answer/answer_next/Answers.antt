-- The policy and the zone are those of the texts.
use Rattle.std.proofs.Common.{◌∙◌, ap, sym}
use Rattle.dnssec_policy.specs.Automatic.Lines.{todo_line}
use Rattle.dnssec_policy.proofs.automatic.answer.answer_next.Goals as goal

pub returns-in_ok-line-in-Ok : goal.returns-in_ok-line-in-Ok
returns-in_ok-line-in-Ok c =
    let policy = c.in-Ok.policy in
    let z = c.in_ok-zone-in-Ok.ensures in let r = z.resumes in
    let notes = c.in_ok-zone-in-Ok.zone.noted.notes in
    let said = c.in_ok-line-in-Ok.ensures r.name r.calls r.entries r.after z.highest in
    record {
      policy = policy;
      is_policy = c.in-Ok.ensures.ok;
      answers = record {
        name = r.name;
        calls = r.calls;
        entries = r.entries;
        is_script = r.is_script;
        is_run = r.after.stands.follows.records.run;
        had_memory = r.had_memory;
        before = notes.before;
        facts = notes.facts;
        are_notes = z.are_notes;
        long_enough = c.in_ok-check-in-Ok.ensures z.highest;
        view = said.says.view;
        sees = said.says.sees;
        now = said.says.now;
        is_line = said.is_line
            ∙ ap (λ todo. todo_line policy.algorithm todo c.args.seconds) (sym said.says.said);
      };
    }
