-- The entry that is answered is that of the outcome.
use Rattle.std.proofs.Common.{refl}
use Rattle.dnssec_run.proofs.running.Recorder.make.Goals as goal

pub returns-clause-ok : goal.returns-clause-ok
returns-clause-ok c name calls entries so =
    (c.in_ok-outcome.ensures.ok name calls entries _
    (record { reply = refl; mark = refl; moment = refl }) c.in_ok-published.ensures.ok so).0
