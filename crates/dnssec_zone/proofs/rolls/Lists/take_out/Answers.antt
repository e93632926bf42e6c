-- The entries of other rolls are kept.
use Rattle.std.{proofs.Common.rules, proofs.Common.tests, specs.Prelude.not}
use Rattle.dnssec_zone.specs.{declared.rolls.ListedKey.ListedKey, Inner.Entries.is_of_roll}
use Rattle.dnssec_key.proofs.Retained.{filtered}
use Rattle.dnssec_zone.proofs.rolls.Lists.take_out.Goals as goal

pub returns-clause-items : goal.returns-clause-items
returns-clause-items c = filtered _ (λ (e : ListedKey). not (is_of_roll c.args.roll e)) _
    (λ x b q k. search (rules, tests)) _ _ c.retain.ensures.filtered
