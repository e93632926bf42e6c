-- A key from the few on is known by its add.
use Rattle.dnssec_judge.proofs.Base.{◌<◌, ◌≤◌, arith, cases_lt, FEW, get_or_past, inl, inr}
use Rattle.dnssec_judge.proofs.sets.adds.Table.search.Goals as goal

pub returns-in_err-number-clause-none : goal.returns-in_err-number-clause-none
returns-in_err-number-clause-none c _ t n e counts =
    let end = c.loop-number-test.false in let min = c.min-number-end.ensures in
    let known = t.known n in let was = c.loop-number.invariant n in
    let none = c.in_err-number.was in let got = c.copied.ensures in let get = c.get.ensures in
    let low : n < FEW → ⊥ =
    λ few. grind (arith, get_or_past, was, e, counts, end, min, few, c.len.ensures) in
    let found : FEW ≤ n → ⊥ = λ few. grind (arith, known, few, e, counts, none, got, get.value) in
    elim (cases_lt n FEW) [ inl lt ↦ low lt | inr ge ↦ found ge ]
