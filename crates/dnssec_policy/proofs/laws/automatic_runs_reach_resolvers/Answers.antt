-- The calls are plain and keep the sets whole, and the reports are by notes.
use Rattle.dnssec_network.proofs.Held.{resolvers_find_chain, resolvers_find_each_chain}
use Rattle.dnssec_network.proofs.Noted.{noted_reports}
use Rattle.dnssec_policy.proofs.{PlainCalls.automatic-plain, Whole.automatic-whole}
use Rattle.dnssec_policy.proofs.Notes.{by-notes, none-ahead}
use Rattle.dnssec_policy.proofs.laws.automatic_runs_reach_resolvers.Goals as goal

pub returns : goal.returns
returns c = λ name calls entries network time run auto is back.
    let plain = automatic-plain run auto in
    let reports = noted_reports entries network time back (by-notes run auto) in
    let ahead = none-ahead run auto in (
      resolvers_find_chain name calls entries network time run plain is reports ahead,
      resolvers_find_each_chain name calls entries network time run plain is
          (automatic-whole run auto) reports ahead,
    )
