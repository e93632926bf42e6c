-- The moments so far, and this one.
use Rattle.std.proofs.Common.{sym, ◌∙◌, ◌++◌, ◌∷◌, []}
use Rattle.dnssec_run.proofs.Latest.{moments-add}
use Rattle.dnssec_run.proofs.moments.Moments.add.Goals as goal

pub returns-clause-ok : goal.returns-clause-ok
returns-clause-ok c = λ entries entry old latest.
    let items = c.in_ok-make_room.ensures ∙ c.self.view_is ∙ old in
    c.in_ok-push.ensures.items ∙ (λ i. items i ++ latest i ∷ []) ∙ sym (moments-add entries entry)
