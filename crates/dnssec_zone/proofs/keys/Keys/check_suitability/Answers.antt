-- All that a start has to leave is there, or not.
use Rattle.std.proofs.Common.{refl, rules, tests, ◌∙◌}
use Rattle.std.proofs.lemmas.Iterator.{YieldsList-from_slice, Search.all_from_yields_List}
use Rattle.dnssec_zone.{specs.Start.texts, proofs.Starts.all_met-is}
use Rattle.dnssec_zone.proofs.keys.Keys.check_suitability.Goals as goal

pub returns-then-are_met : goal.returns-then-are_met
returns-then-are_met c = λ news of. rw (all_met-is c.args.self.now (texts c.args.old.now) news
    c.args.new.now of c.args.wants.now _ (all_from_yields_List _ _ _ _ c.all-are_met.ensures.ran
    (YieldsList-from_slice c.args.wants.now cc) (λ x b q k. search (rules, tests)))
    ∙ c.if-are_met.true) refl

pub returns-else-are_met : goal.returns-else-are_met
returns-else-are_met c = λ news of. rw (all_met-is c.args.self.now (texts c.args.old.now) news
    c.args.new.now of c.args.wants.now _ (all_from_yields_List _ _ _ _ c.all-are_met.ensures.ran
    (YieldsList-from_slice c.args.wants.now cc) (λ x b q k. search (rules, tests)))
    ∙ c.if-are_met.false) refl
