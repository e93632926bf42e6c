-- The greatest moment so far is that of this call or one before it.
use Rattle.std.proofs.Common.{◌≡◌, arith, sym, ◌∙◌}
use Rattle.std.proofs.lemmas.{Grind.common_steps, Result.on_ok_weaker}
use Rattle.std.specs.{Prelude.max, Prelude.unwrap_or}
use Rattle.dnssec_run.specs.Moments.{latest_of}
use Rattle.dnssec_run.proofs.Latest.{latest-more}
use Rattle.dnssec_run.proofs.moments.Moments.take.Goals as goal

pub returns-clause-ok : goal.returns-clause-ok
returns-clause-ok c = on_ok_weaker c.add.result (λ adds entries entry old at.
    let latest : c.max-latest.result ≡ max (latest_of entries) (unwrap_or entry.moment 0) =
    grind (arith, common_steps, c.latest.ensures entries old, at) in
    adds entries entry old (latest ∙ sym (latest-more entries entry))) c.add.ensures.ok
