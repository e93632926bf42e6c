-- A copy has equal parts, so it stands where the recorder does.
use Rattle.std.proofs.Common.{refl, ◌∙◌}
use Rattle.dnssec_run.proofs.running.Recorder.try_clone.Goals as goal

pub returns-clause-same : goal.returns-clause-same
returns-clause-same c = record {
  keyset = c.in_ok-try_clone.ensures.same;
  listings = c.in_ok-added.ensures;
  at = refl;
}

pub returns-clause-records : goal.returns-clause-records
returns-clause-records c name calls entries so =
    let is = returns-clause-same c in
    record {
      run = so.run;
      at = so.at;
      agrees = record {
        same = is.keyset ∙ so.agrees.same;
        listings = λ q. is.listings q ∙ so.agrees.listings q;
      };
    }
