-- If no change is seen, what is known stays.
use Rattle.std.proofs.Common.{◌≡◌, Some, arith, ap, sym, ◌∙◌}
use Rattle.std.proofs.lemmas.Bool.Decides.{nat_tests}
use Rattle.dnssec_zone.specs.Inner.Reported.{over_for}
use Rattle.dnssec_zone.proofs.{Ended.known-alike, Latest.seen}
use Rattle.dnssec_zone.proofs.wait_end.follow.Goals as goal

pub returns-then-eq : goal.returns-then-eq
returns-then-eq c = λ k l was now m n r found is old.
    let same : c.args.after ≡ c.args.before = grind (arith, nat_tests, c.if-eq.true) in
    known-alike m n r (Some l) is c.args.wait.now
    (ap (seen (over_for c.args.wait.now)) found ∙ was ∙ sym same ∙ sym now) old
