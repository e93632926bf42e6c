-- The most urgent of all, or why nothing is done.
use Rattle.std.proofs.Common.{◌∙◌, ap, Option}
use Rattle.dnssec_policy.specs.{declared.why.Why.Why, Code.end_of}
use Rattle.dnssec_policy.specs.{Next.unless_by_hand, Next.unless_lasting, Stuck.stuck, Todo.sooner}
use Rattle.dnssec_policy.proofs.choose.of_keys.Goals as goal

pub returns : goal.returns
returns c same =
    let end = end_of c.args.ends.now in
    let now = c.args.state.now.moment in
    let one = c.or-one.ensures now
    ∙ (λ i. sooner (c.rolls_next.ensures i) (c.deletions.ensures end same i)) in
    let two = c.or-two.ensures now
    ∙ (λ i. sooner (one i) (c.in_ok-change.ensures end same i)) in
    let three = c.or-three.ensures now
    ∙ (λ i. sooner (two i) (c.in_ok-renewals.ensures end same i)) in
    let cause = c.without.ensures now
    ∙ ap (λ (o : Option Why). stuck o) (c.stuck_of-why.ensures same) in
    let four = c.or-next.ensures now ∙ (λ i. sooner (three i) (cause i)) in
    let lasting = c.unless_lasting.ensures now
    ∙ (λ i. unless_lasting (c.stuck_of-why.ensures same i) (four i)) in
    c.unless_by_hand.ensures now ∙ ap (unless_by_hand c.args.state.now.by_hand.at) lasting
