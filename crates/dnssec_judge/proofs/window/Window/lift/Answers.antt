-- What is over is retired, and so is what the call reports, if it is over.
use Rattle.dnssec_judge.proofs.Base.{◌∙◌, ap, floor_at, max}
use Rattle.dnssec_judge.proofs.window.Window.lift.Goals as goal

pub returns-clause-ok : goal.returns-clause-ok
returns-clause-ok c =
    let r = c.in_ok-retire.ensures.ok in let old = c.args.self.now in record {
      floor = r.floor ∙ ap (max (floor_at old c.args.time))
          (c.of-due.ensures c.args.time c.retire.ensures.fits);
      dues = λ t le lt. r.dues t le lt ∙ ap (max (floor_at old t)) (c.of-due.ensures t lt);
      spans = r.spans;
    }
