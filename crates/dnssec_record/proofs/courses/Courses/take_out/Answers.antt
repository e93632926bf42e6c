-- The keys of other rolls are kept.
use Rattle.std.proofs.Common.{◌∙◌, rules, tests}
use Rattle.std.specs.Prelude.{not}
use Rattle.dnssec_key.proofs.Retained.{filtered}
use Rattle.dnssec_record.specs.{Courses.is_of_other, declared.courses.Listing.Listing}
use Rattle.dnssec_record.proofs.Kept.{kept_listed}
use Rattle.dnssec_zone.specs.Rolls.{same_roll}
use Rattle.dnssec_record.proofs.courses.Courses.take_out.Goals as goal

pub returns-clause-listed : goal.returns-clause-listed
returns-clause-listed c =
    kept_listed (is_of_other c.args.roll) _ c.args.self.now.listed.items
    (c.shrink_to_fit.ensures.items
    ∙ filtered _ (λ (l : Listing). not (same_roll c.args.roll l.roll)) _
    (λ x b q k. search (rules, tests)) _ _ c.retain.ensures.filtered)
