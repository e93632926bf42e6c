-- The one so far, or the call.
use Rattle.std.{proofs.Common.◌∙◌, proofs.Common.sym, specs.Option.option_or}
use Rattle.dnssec_policy.{specs.ByHand.at_if_by_hand, proofs.ByHand.first-follows}
use Rattle.dnssec_policy.proofs.by_hand.FirstByHand.after.Goals as goal

pub returns : goal.returns
returns c name calls entries call entry count was is reply at =
    let old = c.args.self.at in
    let of_call = c.at_if_by_hand.ensures ∙ (λ i. at_if_by_hand (sym is i) (sym reply i) (sym at i))
    in
    c.or.ensures ∙ (λ i. option_or old (of_call i))
    ∙ first-follows name calls entries call entry old count was
