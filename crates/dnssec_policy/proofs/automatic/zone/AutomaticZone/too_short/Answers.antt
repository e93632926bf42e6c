-- The highest TTLs are those of the notes.
use Rattle.std.proofs.Common.{◌∙◌, ap}
use Rattle.dnssec_policy.specs.Text.Lint.{too_short, ttl_in}
use Rattle.dnssec_policy.proofs.automatic.zone.AutomaticZone.too_short.Goals as goal

pub returns : goal.returns
returns c = λ so.
    let policy = c.args.policy.now in
    c.too_short.ensures
    ∙ ap (λ h. too_short policy policy.scheme (ttl_in h)) c.highest.ensures
    ∙ (λ i. too_short policy policy.scheme (λ kind. so kind i))
