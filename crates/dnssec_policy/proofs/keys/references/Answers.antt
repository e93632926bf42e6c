-- All keys were looked at.
use Rattle.std.proofs.{Common.◌∙◌, Common.ap, lemmas.List.take_all}
use Rattle.dnssec_policy.{specs.Code.passes, proofs.Loops.picked, proofs.Loops.picked-is}
use Rattle.dnssec_policy.proofs.keys.references.Goals as goal

pub returns : goal.returns
returns c =
    let p = passes c.args.pick.now in
    let keys = c.args.keys.now in
    c.loop-entry.invariant
    ∙ ap (picked p) (take_all c.loop-entry.entry-index keys c.loop-entry-test.false)
    ∙ picked-is p keys
