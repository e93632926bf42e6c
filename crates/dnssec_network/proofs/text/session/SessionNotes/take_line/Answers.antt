-- A further line says a fact.
use Rattle.std.proofs.{Common.refl, Common.subst, lemmas.Result.on_ok_weaker}
use Rattle.dnssec_network.{proofs.Texts.Noting.shown, proofs.Texts.Noting.taken-line}
use Rattle.dnssec_network.{specs.Text.Reading.HasTaken}
use Rattle.dnssec_network.proofs.text.session.SessionNotes.take_line.Goals as goal

pub returns-in-Some-clause-ok : goal.returns-in-Some-clause-ok
returns-in-Some-clause-ok c =
    let old = c.deref_mut.result.now in let moments = c.args.moments.now in
    on_ok_weaker c.take_fact.result
    (λ has lines taken.
    taken-line moments moments lines c.args.line.now old c.take_fact.new.notes refl has
    (subst (HasTaken moments lines)
    (shown _ c.self.inside.notes c.in-Some.notes c.args.self.now old c.self.view_is c.in-Some.is
    c.deref_mut.ensures.value) taken))
    c.take_fact.ensures.ok
