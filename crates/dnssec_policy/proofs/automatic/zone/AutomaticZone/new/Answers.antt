-- No call is made yet.
use Rattle.std.proofs.{Common.[], Common.arith, Common.refl, lemmas.Option.slice_get_within}
use Rattle.dnssec_policy.proofs.automatic.zone.AutomaticZone.new.Goals as goal

pub returns : goal.returns
returns c = record {
  after = c.in_ok-new.ensures;
  moments = c.new-2.ensures;
  highest = c.new-3.ensures.highest;
  count = refl;
  automatic = λ network time are in_time n call here. absurd
      (omega (arith, slice_get_within [] n call here));
}
