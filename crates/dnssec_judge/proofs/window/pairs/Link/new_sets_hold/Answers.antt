-- The new sets of each window fit all of the other.
use Rattle.dnssec_judge.proofs.Base.{◌&&◌, ◌∙◌, ap, false, holds, new_hold, spans_of, sym}
use Rattle.dnssec_judge.proofs.OneByOne.Pairs.{pairs}
use Rattle.dnssec_judge.proofs.window.pairs.Link.new_sets_hold.Goals as goal

pub returns-then-hold_with_new : goal.returns-then-hold_with_new
returns-then-hold_with_new c at to n above below tested =
    c.hold_with_new-then-hold_with_new.ensures to n below
    ∙ ap (λ b. b && new_hold c.args.tested (holds c.args.self false) (spans_of c.args.below.now)
    (spans_of c.args.above.now)) (sym c.if-hold_with_new.true ∙ c.hold_with_new.ensures at n above)
    ∙ pairs _ _ _ _ tested

pub returns-else-hold_with_new : goal.returns-else-hold_with_new
returns-else-hold_with_new c at to n above below tested =
    c.if-hold_with_new.false
    ∙ ap (λ b. b && new_hold c.args.tested (holds c.args.self false) (spans_of c.args.below.now)
    (spans_of c.args.above.now)) (sym c.if-hold_with_new.false ∙ c.hold_with_new.ensures at n above)
    ∙ pairs _ _ _ _ tested
