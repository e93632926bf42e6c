-- The other keys are kept.
use Rattle.std.proofs.Common.{rules, tests}
use Rattle.std.specs.{Prelude.not, Prelude.string_bytes, Str.bytes_eq}
use Rattle.dnssec_key.proofs.Retained.{filtered}
use Rattle.dnssec_record.specs.{Courses.is_another, declared.courses.Listing.Listing}
use Rattle.dnssec_record.proofs.Kept.{kept_listed}
use Rattle.dnssec_record.proofs.courses.Courses.forget.Goals as goal

pub returns-clause-listed : goal.returns-clause-listed
returns-clause-listed c =
    kept_listed (is_another c.args.reference.now) _ c.args.self.now.listed.items
    (filtered _ (λ (l : Listing). not (bytes_eq c.args.reference.now (string_bytes l.reference))) _
    (λ x b q k. search (rules, tests)) _ _ c.retain.ensures.filtered)
