-- Before its first call a recorder has a record of none.
use Rattle.std.proofs.Common.{refl, []}
use Rattle.dnssec_run.proofs.{Grow.run_none, Grow.world_none, Next.agrees-new}
use Rattle.dnssec_run.proofs.running.Recorder.new.Goals as goal

pub returns : goal.returns
returns c = record {
  run = run_none c.args.name;
  at = refl;
  agrees = rw (world_none c.args.name [])
      (agrees-new c.args.name c.new.result _ c.new.ensures c.new-2.ensures);
}
