-- The first line, and the others.
use Rattle.std.proofs.Common.{None, Some, ap, arith, subst, sym, ◌∙◌, ◌≡◌}
use Rattle.std.specs.Option.{option_map}
use Rattle.dnssec_network.specs.{Facts.Before, Text.Lines.before_says}
use Rattle.dnssec_policy.specs.Text.Lint.{AreHighest}
use Rattle.dnssec_policy.proofs.Zone.Facts.{first-line, no-notes, same-before}
use Rattle.dnssec_policy.proofs.automatic.zone_notes.highest_in.Goals as goal

pub returns-in_default : goal.returns-in_default
returns-in_default c = λ moments before facts are.
    absurd (no-notes moments c.args.lines.now before facts
    (omega (arith, c.in_default.ensures.cases))
    are)

pub returns-in_default-read_before : goal.returns-in_default-read_before
returns-in_default-read_before c = λ moments before facts are.
    let both = first-line moments _ _ _ before facts c.in-Some.ensures.cases.0 are in
    let none : None ≡ Some (before_says before) =
    sym (ap (option_map before_says) c.in_default-read_before.is) ∙ c.read_before.ensures
    ∙ both.0 in
    cc

pub returns : goal.returns
returns c = λ moments before facts are.
    let both = first-line moments _ _ _ before facts c.in-Some.ensures.cases.0 are in
    let read = c.in-Some-read_before.before in
    let some : Some (before_says read) ≡ Some (before_says before) =
    sym (ap (option_map before_says) c.in-Some-read_before.is) ∙ c.read_before.ensures ∙ both.0 in
    let said : before_says read ≡ before_says before = cc in
    subst (λ (b : Before). AreHighest b facts c.highest_after.result) (same-before read before said)
    (c.highest_after.ensures moments facts both.1)
