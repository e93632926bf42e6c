-- Reports by notes are true, so what resolvers hold has a chain.
use Rattle.dnssec_network.proofs.{Held.resolvers_find_chain, Noted.noted_reports}
use Rattle.dnssec_network.proofs.chain.noted_reports_reach_resolvers.Goals as goal

pub returns : goal.returns
returns c name calls entries network time run plain is back by =
    resolvers_find_chain name calls entries network time run plain is
    (noted_reports entries network time back by)
