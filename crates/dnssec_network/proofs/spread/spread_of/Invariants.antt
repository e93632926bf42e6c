-- What is known by the facts so far.
use Rattle.std.{proofs.Common.◌≡◌, proofs.Common.take, specs.Prelude.fold}
use Rattle.dnssec_run.specs.Safe.{kind_of}
use Rattle.dnssec_network.{specs.Spread.after, specs.Spread.first_spread, proofs.Passed.after_fact}
use Rattle.dnssec_network.proofs.spread.spread_of.Given as goal

abbrev pub invariant-loop-fact : goal.invariant-loop-fact
invariant-loop-fact l =
    l.spread ≡ fold (after_fact (kind_of l.kind) (after l.base)) (first_spread l.ttl)
    (take l.fact-index l.facts)
