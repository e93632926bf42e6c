-- The roll is in a phase.
use Rattle.std.proofs.Common.{◌∙◌, ap}
use Rattle.dnssec_policy.specs.{Code.end_of, Code.view_of, Next.phase_next}
use Rattle.dnssec_policy.proofs.in_progress.phase_next.Goals as goal

pub returns-in-Some : goal.returns-in-Some
returns-in-Some c =
    let v = view_of c.args.state.now (end_of c.args.ends.now) in
    c.roll_next.ensures ∙ ap (phase_next v c.args.roll)
    ((c.in-Some.ensures).value ∙ c.rollstates.ensures.at c.args.roll)
