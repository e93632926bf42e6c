-- Each turn notes one kind, if it has listed the key.
use Rattle.std.proofs.Common.{◌∙◌, ap}
use Rattle.std.proofs.lemmas.List.{take_all}
use Rattle.std.specs.List.{filter}
use Rattle.dnssec_status.specs.Keys.{rolls_of}
use Rattle.dnssec_status.proofs.Chains.{filter_one_more}
use Rattle.dnssec_zone.specs.Rolls.{all_rolls}
use Rattle.dnssec_status.proofs.listed.rolls_of.Goals as goal

pub loop-roll-init : goal.loop-roll-init
loop-roll-init c = c.new-rolls.ensures.items

pub loop-roll-preserved : goal.loop-roll-preserved
loop-roll-preserved c =
    filter_one_more _ _ _ _ c.loop-roll.invariant c.in_ok-note.ensures c.loop-roll-test.true

pub returns : goal.returns
unfolding rolls_of
returns c =
    c.loop-roll.invariant
    ∙ ap (filter _) (take_all _ _ c.loop-roll-test.false ∙ c.all_rolls-roll-items.ensures)
    ∙ (λ i. filter (λ roll. c.of_key-listed.ensures roll c.args.part i) all_rolls)
