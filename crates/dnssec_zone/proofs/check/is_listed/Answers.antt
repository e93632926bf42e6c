-- The texts of the references are what they point to.
use Rattle.std.proofs.Common.{ℕ, List, Bor, rules, tests, sym, ◌∙◌}
use Rattle.std.proofs.lemmas.Iterator.{YieldsList-from_slice, Search.any_from_yields_List}
use Rattle.std.specs.Str.{bytes_eq}
use Rattle.dnssec_zone.proofs.Marks.{is_listed-texts}
use Rattle.dnssec_zone.proofs.check.is_listed.Goals as goal

pub returns : goal.returns
returns c = any_from_yields_List (λ (r : Bor (List ℕ)). bytes_eq c.args.reference.now r.now) _ _ _
    c.any.ensures.ran (YieldsList-from_slice c.args.references.now cc)
    (λ x b q k. search (rules, tests)) ∙ sym (is_listed-texts c.args.references.now _)
