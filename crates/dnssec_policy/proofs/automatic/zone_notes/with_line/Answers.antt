-- The fact that was read is the one that the line says.
use Rattle.std.proofs.Common.{◌≡◌, ◌++◌, ◌∷◌, ◌∙◌, [], None, Some, ap, subst, sym}
use Rattle.std.specs.Option.{option_map}
use Rattle.dnssec_network.specs.{declared.fact.Fact.Fact, Text.Lines.fact_says}
use Rattle.dnssec_policy.{specs.Text.Lint.AreHighest, proofs.Zone.Facts.same-fact}
use Rattle.dnssec_policy.proofs.automatic.zone_notes.with_line.Goals as goal

pub returns-in-None : goal.returns-in-None
returns-in-None c = λ before facts fact says so.
    let none : None ≡ Some (fact_says fact) =
    sym (ap (option_map fact_says) c.in-None.is) ∙ c.read_fact.ensures ∙ says in
    cc

pub returns-in-Some : goal.returns-in-Some
returns-in-Some c = λ before facts fact says so.
    let both : Some (fact_says c.in-Some.fact) ≡ Some (fact_says fact) =
    sym (ap (option_map fact_says) c.in-Some.is) ∙ c.read_fact.ensures ∙ says in
    let said : fact_says c.in-Some.fact ≡ fact_says fact = cc in
    subst (λ (f : Fact). AreHighest before (facts ++ f ∷ []) c.after.result)
    (same-fact c.in-Some.fact fact said) (c.after.ensures before facts so)
