-- The windows are as they were, and so are the numbers.
use Rattle.dnssec_judge.proofs.Base.{refl}
use Rattle.dnssec_judge.proofs.OneByOne.Copies.{knows-too}
use Rattle.dnssec_judge.proofs.judging.Judge.fit.Goals as goal

pub returns : goal.returns
returns c add entries = knows-too add entries c.args.self.now _ (record {
  kept = refl;
  ds = c.fit.ensures;
  dnskey = c.fit-2.ensures;
  zone = c.fit-3.ensures;
}) (λ table. table) (λ n. refl)
