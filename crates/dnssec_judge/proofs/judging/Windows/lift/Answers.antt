-- None of the reports that are left is over before the first of them.
use Rattle.dnssec_judge.proofs.Base.{ℕ, ◌≡◌, ◌≤◌, arith, cmp-value, ord_min, refl, rules, tests}
use Rattle.dnssec_judge.proofs.judging.Windows.lift.Goals as goal

least : (r t u : ℕ) → r ≡ ord_min cmp-value.it t u → (r ≤ t) × (r ≤ u)
least r t u is = (search (rules, tests), search (rules, tests))

pub returns : goal.returns
returns c =
    let two = least c.min.result c.next.result c.next-2.result c.min.ensures in
    let all = least c.min-self.result c.min.result c.next-3.result c.min-self.ensures in record {
      kept = refl;
      ds = c.in_ok-lift.ensures.ok;
      dnskey = c.in_ok-lift-2.ensures.ok;
      zone = c.in_ok-lift-3.ensures.ok;
      next = (
        λ t lt. c.next.ensures t (omega (arith, lt, all.0, two.0)),
        λ t lt. c.next-2.ensures t (omega (arith, lt, all.0, two.1)),
        λ t lt. c.next-3.ensures t (omega (arith, lt, all.1)),
      );
    }
