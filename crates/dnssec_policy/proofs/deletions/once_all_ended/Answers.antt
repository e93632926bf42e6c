-- All rolls had their say.
use Rattle.std.proofs.Common.{◌∙◌, ap, get_or, sym}
use Rattle.dnssec_policy.specs.Code.{todo_of, view_of}
use Rattle.dnssec_key.specs.declared.roll.RollType.TheVariants as ksk
use Rattle.dnssec_policy.specs.{Next.once_ended, Todo.Todo}
use Rattle.dnssec_policy.proofs.Loops.{ended-more, ended_so_far, no_end, over-all}
use Rattle.dnssec_policy.proofs.deletions.once_all_ended.Goals as goal

pub returns : goal.returns
returns c end =
    let a = c.args in
    c.loop-roll.invariant
    ∙ ap (ended_so_far (view_of a.state.now end) (todo_of a.state.now.moment a.todo))
    (over-all _ _ c.loop-roll-test.false c.all_rolls-roll-items.ensures)

pub loop-roll-preserved : goal.loop-roll-preserved
loop-roll-preserved c =
    let a = c.args in
    let v = view_of a.state.now no_end in
    let i = c.loop-roll.roll-index in
    let items = c.all_rolls-roll-items.result.now in
    let roll = get_or items i ksk.KskRoll in
    c.once_ended-so_far.ensures no_end
    ∙ ap (λ (t : Todo). once_ended v roll (v.last roll) t) c.loop-roll.invariant
    ∙ sym (ended-more v (todo_of a.state.now.moment a.todo) items i ksk.KskRoll
    c.loop-roll-test.true)
