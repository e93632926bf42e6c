-- The lists of a start are those that are said.
use Rattle.std.proofs.Common.{◌∙◌, ◌++◌, ap, map, string_bytes, sym}
use Rattle.std.proofs.lemmas.Result.{on_ok_weaker}
use denote.Bor.{now}
use Rattle.dnssec_policy.specs.{Code.todo_of, Automatic.Lines.start_text, Automatic.Lines.todo_line}
use Rattle.dnssec_policy.proofs.automatic.line.push_next.Goals as goal

pub returns-in-Start : goal.returns-in-Start
returns-in-Start c =
    let s = c.in-Start in let old = string_bytes c.args.text.now in
    let seconds = c.args.seconds in on_ok_weaker c.push_start.result (λ e now'.
    e
    ∙ ap (λ l. old ++ start_text s.roll (map now l) (map now c.deref-in-Start.result.now) seconds)
    c.deref.ensures.value
    ∙ ap (λ l. old ++ start_text s.roll (map now s.old.items) (map now l) seconds)
    c.deref-in-Start.ensures.value
    ∙ ap (λ next. old ++ todo_line c.args.algorithm (todo_of now' next) seconds) (sym s.is))
    c.push_start.ensures
