-- Without a roll in progress there is no cause. Else the roll itself is looked for first, then one
-- beside which it may not begin.
use Rattle.std.proofs.Common.{◌≡◌, rules, sym, ◌∙◌}
use Rattle.dnssec_zone.{specs.Rolls.no_rolls, specs.Start.conflict, proofs.Phases.shown-none}
use Rattle.dnssec_zone.proofs.rolls.Rolls.check_conflict.Goals as goal

pub returns-then-is_empty : goal.returns-then-is_empty
unfolding conflict
returns-then-is_empty c =
    let none : c.args.self.now ≡ no_rolls = sym c.self.view_is
    ∙ shown-none c.self.inside.phases (c.is_empty.ensures.0 c.if-is_empty.true) in
    rw none (search rules)
