-- The last end is the latest moment.
use Rattle.dnssec_zone.specs.{Inner.Over.over_at, Keys.keys_in_map}
use Rattle.dnssec_zone.proofs.Ended.{last-latest}
use Rattle.dnssec_zone.proofs.wait_end.counted.Goals as goal

pub returns-in-Ok-clause-known : goal.returns-in-Ok-clause-known
returns-in-Ok-clause-known c = (
  last-latest (over_at c.args.roll c.args.half c.args.ttl) (keys_in_map c.args.keys.now)
      c.in-Ok.ends c.in-Ok.ensures _ (c.last.ensures c.in-Ok.ensures.had),
  c.in-Ok.ensures,
)

pub returns-in-Ok-clause-over : goal.returns-in-Ok-clause-over
returns-in-Ok-clause-over c =
    last-latest (over_at c.args.roll c.args.half c.args.ttl) (keys_in_map c.args.keys.now)
    c.in-Ok.ends c.in-Ok.ensures _ (c.last.ensures c.in-Ok.ensures.had)
