-- A walk counts what there is.
use Rattle.dnssec_zone.proofs.Counted.{counts-walked}
use Rattle.dnssec_zone.proofs.derived.count_all.Goals as goal

pub returns : goal.returns
returns c = rw c.count_one_by_one.ensures.walk (counts-walked c.args.keys.now
    c.count_one_by_one.ensures.unique c.count_one_by_one.ensures.fits)
