-- The rolls that may go beside this one are kept.
use Rattle.std.proofs.Common.{rules, tests}
use Rattle.dnssec_key.proofs.Retained.{filtered}
use Rattle.dnssec_zone.specs.Start.{together}
use Rattle.dnssec_record.proofs.courses.Courses.forget_ends.Goals as goal

pub returns-clause-ended : goal.returns-clause-ended
returns-clause-ended c =
    filtered _ (together c.args.roll) _ (λ x b q k. search (rules, tests)) _ _
    c.retain.ensures.filtered
