-- The lines are due after the calls of the session.
use Rattle.std.proofs.Common.{subst, sym}
use Rattle.dnssec_network.proofs.Texts.{Noting.are-notes, Noting.shown, Reporting.is_due_after}
use Rattle.dnssec_network.specs.Text.Reading.{HasTaken}
use Rattle.dnssec_network.proofs.text.session.SessionNotes.due_now.Goals as goal

pub returns-in_ok-due_lines-in-Some-clause-text : goal.returns-in_ok-due_lines-in-Some-clause-text
returns-in_ok-due_lines-in-Some-clause-text c = λ lines notes entries stands at taken.
    let noted = c.deref.result.now in let moments = c.args.moments.now in
    is_due_after lines notes entries c.args.session.now _ c.steps-steps.result moments noted
    c.args.seconds _ stands c.keyset-keyset.ensures
    (c.steps-steps.ensures stands.name stands.calls entries stands.stands) at
    (are-notes moments notes noted
    (subst (λ o. HasTaken moments notes o)
    (shown _ c.self.inside.notes c.in-Some.notes c.args.self.now noted c.self.view_is
    c.in-Some.is c.deref.ensures) (subst (λ m. HasTaken m notes c.args.self.now) (sym at) taken)))
    c.in_ok-due_lines-in-Some.ensures
