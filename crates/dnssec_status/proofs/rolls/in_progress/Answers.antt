-- Each turn adds what one kind notes.
use Rattle.std.proofs.Common.{[], ◌∙◌, ap, refl, rules}
use Rattle.std.proofs.lemmas.List.{take_all}
use Rattle.std.specs.List.{flat_map}
use Rattle.dnssec_status.proofs.Chains.{flat_map_more}
use Rattle.dnssec_status.proofs.rolls.in_progress.Goals as goal

pub loop-roll-init : goal.loop-roll-init
loop-roll-init c = rw c.new-rolls.ensures.items (refl, search rules)

pub loop-roll-preserved : goal.loop-roll-preserved
loop-roll-preserved c = (
  flat_map_more _ _ _ _ [] c.loop-roll.invariant.0 c.in_ok-note.ensures.all
      c.loop-roll-test.true,
  c.in_ok-note.ensures.ends c.loop-roll.invariant.1,
)

pub returns-clause-all : goal.returns-clause-all
returns-clause-all c =
    c.loop-roll.invariant.0
    ∙ ap (flat_map _) (take_all _ _ c.loop-roll-test.false ∙ c.all_rolls-roll-items.ensures)

pub returns-clause-ends : goal.returns-clause-ends
returns-clause-ends c = c.loop-roll.invariant.1
