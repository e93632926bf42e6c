-- That of the last call so far.
use Rattle.std.proofs.Common.{◌≡◌, ap, arith, length, ◌∙◌}
use Rattle.std.specs.Prelude.{unwrap_or}
use Rattle.dnssec_run.specs.Moments.{moment_of_call}
use Rattle.dnssec_run.proofs.Latest.{latest-is, moments-count}
use Rattle.dnssec_run.proofs.moments.Moments.latest.Goals as goal

pub returns : goal.returns
returns c = λ entries is.
    let same = ap length (c.self.view_is ∙ is) in
    let count : c.len.result ≡ length entries =
    omega (arith, c.len.ensures, c.self.inside.by_call.ok.0, same, moments-count entries) in
    c.unwrap_or.ensures ∙ (λ i. unwrap_or (c.of_call.ensures i) (c.start.ensures i))
    ∙ (λ i. unwrap_or (moment_of_call (is i) (count i)) 0) ∙ latest-is entries
