-- The copy knows what the judge knows, and the other way round.
use Rattle.dnssec_judge.proofs.Base.{sym}
use Rattle.dnssec_judge.proofs.OneByOne.Copies.{are-same-back, knows-too}
use Rattle.dnssec_judge.proofs.judging.Judge.try_clone.Goals as goal

pub returns-clause-same : goal.returns-clause-same
returns-clause-same c add entries =
    let numbers = c.in_ok-try_clone-2.ensures in let windows = c.in_ok-try_clone.ensures in (
      knows-too add entries c.args.self.now _ windows numbers.table.0 numbers.same,
      knows-too add entries _ c.args.self.now (are-same-back windows) numbers.table.1
          (λ n. sym (numbers.same n)),
    )
