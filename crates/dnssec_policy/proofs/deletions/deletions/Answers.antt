-- All keys were looked at.
use Rattle.std.proofs.{Common.◌∙◌, Common.ap, Common.sym, lemmas.List.take_all}
use Rattle.dnssec_policy.specs.{Code.view_of, Todo.sooner}
use Rattle.dnssec_policy.proofs.Loops.{deletions-lent, lent-more, lent_so_far, no_end}
use Rattle.dnssec_policy.proofs.deletions.deletions.Goals as goal

pub returns : goal.returns
returns c end same =
    let a = c.args in
    let v = view_of a.state.now end in
    let so_far = lent_so_far a.policy.now v in
    c.loop-entry.invariant
    ∙ ap so_far (take_all c.loop-entry.entry-index a.keys.now c.loop-entry-test.false)
    ∙ sym (deletions-lent a.policy.now v a.keys.now same)

pub loop-entry-preserved : goal.loop-entry-preserved
loop-entry-preserved c =
    let a = c.args in
    let v = view_of a.state.now no_end in
    c.or-best.ensures a.state.now.moment
    ∙ (λ j. sooner (c.loop-entry.invariant j) (c.deletion.ensures no_end j))
    ∙ sym (lent-more a.policy.now v a.keys.now c.loop-entry.entry-index c.entry-item.result
    c.loop-entry-test.true c.entry-item.is)
