-- All spans came before the position, or the last one has the set of an earlier one.
use Rattle.dnssec_judge.proofs.Base.{ℕ, ◌+◌, ◌<◌, ◌||◌, ◌∙◌, ◌≡◌, ◌≤◌, ap, arith, came, cases_lt}
use Rattle.dnssec_judge.proofs.Base.{false, get_or, inl, inr, length, nat_lt, nat_tests, refl, Span}
use Rattle.dnssec_judge.proofs.Base.{subst, suc, sym, true}
use Rattle.dnssec_judge.proofs.OneByOne.Pairs.{came-before, each, passed-all}
use Rattle.std.proofs.lemmas.List.{get_or_default}
use Rattle.dnssec_judge.proofs.window.spans.Spans.are_old.Goals as goal

is-less : (m n : ℕ) → (nat_lt m n || false) ≡ true → m < n
is-less m n h = grind (arith, nat_tests)

pub returns-then-self-tested : goal.returns-then-self-tested
returns-then-self-tested c e at n tiles s there =
    let w = c.args.self.now in let items = w.list.items in
    let early = passed-all at n c.args.tested (λ p. false) items tiles
    (rw w.newest_is at c.if-self-tested.true) in
    (s, there, is-less s.from c.args.tested ((each _ items).0 early s there), refl)

pub returns : goal.returns
returns c e at n tiles s there =
    let w = c.args.self.now in let items = w.list.items in let place = c.in-Some.place in
    let len : length items ≡ place + 3 = omega (arith, c.in-Some.ensures, c.len.ensures) in
    let first = c.index.result.now in let last = c.index-2.result.now in
    let le : came items ≤ c.args.tested = omega (arith, w.newest_is, c.if-self-tested-2.false) in
    let early = came-before at n c.args.tested items tiles le in
    elim (cases_lt (suc there.0) (length items)) [
      | inl lt ↦ (
        s,
        there,
        subst (λ (s : Span). s.from < c.args.tested) there.2
            (early there.0 s lt),
        refl,
      )
      | inr ge ↦
          let here : there.0 ≡ place + 2 = omega (arith, len, ge, there.1) in (
            first,
            (place, omega (arith, len), sym c.index.ensures),
            subst (λ (s : Span). s.from < c.args.tested) (sym c.index.ensures)
                (early place first (omega (arith, len))),
            c.is_same.ensures e ∙ ap (λ (s : Span). s.set) (c.index-2.ensures
                ∙ get_or_default items (place + 2) last s (omega (arith, len))
                ∙ ap (λ i. get_or items i s) (sym here) ∙ there.2),
          )
    ]
