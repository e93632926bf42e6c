-- Facts of other kinds are passed over.
use Rattle.std.proofs.{Common.◌∙◌, Common.ap, lemmas.List.take_all}
use Rattle.std.specs.Prelude.{fold}
use Rattle.dnssec_run.specs.Safe.{kind_of}
use Rattle.dnssec_network.specs.Spread.{after, first_spread}
use Rattle.dnssec_network.proofs.Passed.{after_fact, passed}
use Rattle.dnssec_network.proofs.spread.spread_of.Goals as goal

pub returns : goal.returns
returns c =
    let a = c.args in
    let at = c.loop-fact in
    at.invariant
    ∙ ap (fold (after_fact (kind_of a.kind) (after a.base)) (first_spread a.ttl))
    (take_all at.fact-index a.facts.now c.loop-fact-test.false)
    ∙ passed (kind_of a.kind) (after a.base) (first_spread a.ttl) a.facts.now
