-- What the rolls listed goes on with the zone.
use Rattle.std.proofs.Common.{ap, refl, ◌∙◌}
use Rattle.dnssec_record.specs.Courses.{turn_after}
use Rattle.dnssec_record.proofs.Running.{lists_on}
use Rattle.dnssec_record.proofs.zone.ZoneState.make.Goals as goal

pub returns : goal.returns
returns c name calls entries so =
    let made = c.in_ok-reply in
    lists_on _ so (made.ensures.known name calls entries so.follows) made.ensures.courses refl
    refl _ (c.after.ensures ∙ ap (λ t. turn_after t made.reply) c.of-turn.ensures)
    c.in_ok-take.ensures.listed c.in_ok-take.ensures.ended
