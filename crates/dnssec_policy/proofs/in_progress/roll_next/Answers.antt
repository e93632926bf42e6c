-- What is said of the phase in which the roll is.
use Rattle.std.proofs.Common.{◌∙◌, ap, sym}
use Rattle.dnssec_key.specs.declared.roll.{RollState.RollState, RollType.RollType}
use Rattle.dnssec_key.specs.declared.roll.Half.TheVariants.{First, Second}
use Rattle.dnssec_policy.specs.Code.{end_of, view_of}
use Rattle.dnssec_policy.specs.{InProgress.roll_next, InProgress.wait_next, Todo.Todo}
use Rattle.dnssec_policy.specs.declared.state.{Ends.Ends, State.State}
use Rattle.dnssec_policy.proofs.in_progress.roll_next.Goals as goal

abbrev said : State → Ends → RollType → RollState → Todo
said s ends roll phase = roll_next (view_of s (end_of ends)) roll phase

pub returns-in-Propagation1 : goal.returns-in-Propagation1
returns-in-Propagation1 c =
    let a = c.args in
    c.report_next.ensures (end_of a.ends.now)
    ∙ ap (said a.state.now a.ends.now a.roll) (sym c.in-Propagation1.is)

pub returns-in-Propagation2 : goal.returns-in-Propagation2
returns-in-Propagation2 c =
    let a = c.args in
    c.report_next-in-Propagation2.ensures (end_of a.ends.now)
    ∙ ap (said a.state.now a.ends.now a.roll) (sym c.in-Propagation2.is)

pub returns-in-CacheExpire1 : goal.returns-in-CacheExpire1
returns-in-CacheExpire1 c =
    let a = c.args in
    c.wait_next.ensures (end_of a.ends.now)
    ∙ ap (wait_next (view_of a.state.now (end_of a.ends.now)) a.roll First) c.of.ensures
    ∙ ap (said a.state.now a.ends.now a.roll) (sym c.in-CacheExpire1.is)

pub returns-in-CacheExpire2 : goal.returns-in-CacheExpire2
returns-in-CacheExpire2 c =
    let a = c.args in
    c.wait_next-in-CacheExpire2.ensures (end_of a.ends.now)
    ∙ ap (wait_next (view_of a.state.now (end_of a.ends.now)) a.roll Second)
    c.of-in-CacheExpire2.ensures
    ∙ ap (said a.state.now a.ends.now a.roll) (sym c.in-CacheExpire2.is)

pub returns-in-Done : goal.returns-in-Done
returns-in-Done c =
    let a = c.args in
    c.end_next.ensures (end_of a.ends.now)
    ∙ ap (said a.state.now a.ends.now a.roll) (sym c.in-Done.is)
