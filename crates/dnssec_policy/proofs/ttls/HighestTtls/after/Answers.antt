-- The fact counts for its kind.
use Rattle.std.proofs.Common.{◌∙◌, ap}
use Rattle.dnssec_policy.{specs.Ttls.ttl_in, proofs.Highest.raised-by}
use Rattle.dnssec_policy.proofs.ttls.HighestTtls.after.Goals as goal

pub returns : goal.returns
returns c = λ before facts are kind.
    ap (λ h. ttl_in h kind) c.after_news.ensures
    ∙ raised-by c.args.self c.args.kind c.args.news.now before facts are kind
