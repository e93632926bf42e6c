-- The keys are counted again if the end of the phase may change a count.
use Rattle.std.proofs.Common.{ap, sym, ◌∙◌}
use Rattle.std.proofs.lemmas.Bool.{false≢true}
use Rattle.dnssec_zone.specs.Inner.Counts.{end_moves_kept}
use Rattle.dnssec_zone.proofs.derived.Derived.end_phase.Goals as goal

pub returns-then-wait_moves_kept-clause-kept : goal.returns-then-wait_moves_kept-clause-kept
returns-then-wait_moves_kept-clause-kept c = λ kept. absurd (false≢true (sym kept
    ∙ ap (λ e. end_moves_kept e c.args.roll c.args.half) c.in-Wait.is
    ∙ sym c.wait_moves_kept.ensures ∙ c.if-wait_moves_kept.true))

pub returns-else-wait_moves_kept-clause-moved : goal.returns-else-wait_moves_kept-clause-moved
returns-else-wait_moves_kept-clause-moved c = λ moved. absurd (false≢true
    (sym c.if-wait_moves_kept.false ∙ c.wait_moves_kept.ensures
    ∙ sym (ap (λ e. end_moves_kept e c.args.roll c.args.half) c.in-Wait.is) ∙ moved))

pub returns-in-Report-clause-moved : goal.returns-in-Report-clause-moved
returns-in-Report-clause-moved c = λ moved. absurd (false≢true
    (sym (ap (λ e. end_moves_kept e c.args.roll c.args.half) c.in-Report.is) ∙ moved))
