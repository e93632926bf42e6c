-- Position 0 is safe.
use Rattle.dnssec_judge.proofs.Verdicts.Searches.{safe-start}
use Rattle.dnssec_run.specs.Safe.{Dnskey, Ds, ZoneSigners, base_below, position_at, time_at}
use Rattle.std.proofs.Common.{arith, refl}
use Rattle.dnssec_judge.proofs.judging.Windows.new.Goals as goal

pub returns : goal.returns
unfolding time_at base_below position_at
returns c key = record {
  verdict = safe-start _;
  follows = record {
    at = refl;
    steps = c.new-2.ensures;
    time = omega (arith, c.from.ensures, c.from_secs.ensures);
    fits = omega (arith, c.from.ensures, c.from_secs.ensures);
    ds = c.in_ok-ds.ensures.watches Ds key;
    dnskey = c.in_ok-new.ensures.watches Dnskey key;
    zone = c.in_ok-new-2.ensures.watches ZoneSigners key;
    next = (
      rw c.in_ok-ds.ensures.none (λ t lt. refl),
      rw c.in_ok-new.ensures.none (λ t lt. refl),
      rw c.in_ok-new-2.ensures.none (λ t lt. refl),
    );
    within = omega arith;
    tested = record {
      keys = λ p q x y lt less. absurd (omega (arith, lt));
      zones = λ q z x y lt less. absurd (omega (arith, lt));
    };
  };
}
