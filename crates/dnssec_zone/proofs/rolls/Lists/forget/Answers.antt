-- The entries of other keys are kept.
use Rattle.std.{proofs.Common.rules, proofs.Common.tests, specs.Prelude.not, specs.Prelude.nat_eq}
use Rattle.dnssec_zone.specs.declared.rolls.ListedKey.{ListedKey}
use Rattle.dnssec_key.proofs.Retained.{filtered}
use Rattle.dnssec_zone.proofs.rolls.Lists.forget.Goals as goal

pub returns : goal.returns
returns c = filtered _ (λ (e : ListedKey). not (nat_eq e.key_tag c.args.key_tag)) _
    (λ x b q k. search (rules, tests)) _ _ c.retain.ensures.filtered
