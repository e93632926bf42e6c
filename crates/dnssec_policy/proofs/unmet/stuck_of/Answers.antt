-- Rolls, starts, keys.
use Rattle.std.{proofs.Common.◌∙◌, specs.Option.option_or}
use Rattle.dnssec_policy.specs.Code.{end_of}
use Rattle.dnssec_policy.proofs.unmet.stuck_of.Goals as goal

pub returns : goal.returns
returns c same =
    let end = end_of c.args.ends.now in
    let starts = c.starts_why-starts.ensures end same in
    let keys = c.keys_why.ensures end same in
    let rest = c.or.ensures ∙ (λ i. option_or (starts i) (keys i)) in
    c.or-2.ensures ∙ (λ i. option_or (c.rolls_why-rolls.ensures i) (rest i))
