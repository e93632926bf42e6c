-- Each key that has a number is known anew.
use Rattle.dnssec_judge.proofs.Base.{◌<◌, ◌≡◌, ◌≤◌, arith, get, get_or, get_or_past, length}
use Rattle.dnssec_judge.proofs.Base.{nat_cmp, nat_tests, Some, subst}
use Rattle.dnssec_judge.proofs.Adds.{table-from}
use Rattle.std.proofs.lemmas.List.{get_or-take, length-take}
use Rattle.dnssec_judge.proofs.sets.adds.Table.renew.Goals as goal

pub loop-number-preserved : goal.loop-number-preserved
loop-number-preserved c = record {
  ends = λ n lt counts. omega (arith, lt);
  known = λ t n lt few counts.
      (let was = c.loop-number.invariant.known t n in let i = c.loop-number.number in
      let here = c.deref-added-items.ensures.value in let isnt = c.if-added-eq0.false in
      let apart = rw (← here) at t.apart i n in
      elim c.if-number-ge-FEW.branch [
        | goal.then-number-ge-FEW+in_ok-insert w ↦
            (let put = w.in_ok-insert.ensures.updates in let by = w.by_added-is in
            let at = put.0 (get_or c.deref-added-items.result.now n 0) in
            grind (arith, nat_tests, lt, few, counts, was, apart, at, by, isnt))
        | goal.else-number-ge-FEW w ↦
            (let by = w.by_added-is in let less = w.if-number-ge-FEW.false in
            grind (arith, lt, few, counts, was, by, less))
      ]);
}

pub returns-clause-same : goal.returns-clause-same
returns-clause-same c n =
    let so = c.loop-number.invariant.ends n in let past = c.loop-number-test.false in
    let here = c.deref-added-items.ensures.value in
    let fit = c.in_ok-extend_from_slice.ensures in let cut = c.truncate.ensures.items in
    grind (arith, get_or-take, length-take, get_or_past, fit, cut, so, past, here)

pub returns-clause-table : goal.returns-clause-table
returns-clause-table c t =
    table-from c.args.self.now _ (λ n. returns-clause-same c n) (λ n few counts.
    (let items = c.args.self.now.adds.items in let here = c.deref-added-items.ensures.value in
    let past : length items ≤ n → ⊥ = λ le. omega (arith, counts, get_or_past items n 0 le) in
    let lt : n < c.loop-number.number = grind (arith, past, c.loop-number-test.false, here) in
    subst (λ xs. 0 < get_or xs n 0 → get nat_cmp c.loop-number.by_added (get_or xs n 0) ≡ Some n)
    here (c.loop-number.invariant.known t n lt few) counts)) t
