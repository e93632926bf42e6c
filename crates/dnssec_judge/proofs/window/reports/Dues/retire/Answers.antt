-- One report more that isn't over takes the place after those that are kept.
use Rattle.dnssec_base.specs.contracts.time.UnixTimeOrd.TheImpl.{cmp-value}
use Rattle.dnssec_judge.proofs.OneByOne.Windows.{over_more}
use Rattle.std.proofs.Common.{[], ap, arith, drop, get_or, length, rules, set, sym, take, tests, ℕ}
use Rattle.std.proofs.Common.{◌++◌, ◌+◌, ◌<◌, ◌∙◌, ◌∷◌, ◌≡◌}
use Rattle.std.proofs.lemmas.Bool.Decides.{nat_tests}
use Rattle.std.proofs.lemmas.List.{drop-set-lt, drop_more, length-set, take_more_set}
use Rattle.std.specs.{Ordering.ord_min, Prelude.min}
use Rattle.dnssec_judge.proofs.window.reports.Dues.retire.Goals as goal

earlier : (r t u : ℕ) → r ≡ ord_min cmp-value.it t u → r ≡ min t u
earlier r t u is = search (rules, tests)

pub loop-place-preserved : goal.loop-place-preserved
loop-place-preserved c =
    let l = c.loop-place in let was = l.invariant in let items = l.self.list.items in
    let due = c.index.result.now in let now = set items l.kept due in
    let within : l.place < length items =
    omega (arith, c.loop-place-test.true, c.len-place-end.ensures, was.len) in
    let kept : take (l.kept + 1) now ≡ take l.kept items ++ due ∷ [] =
    take_more_set items l.kept due (omega (arith, was.within, within)) in
    let left : drop (l.place + 1) now ≡ drop (l.place + 1) items =
    drop-set-lt (l.place + 1) items l.kept due (omega (arith, was.within)) in
    let first = earlier c.min-next.result l.next due.over c.min-next.ensures in
    let same : get_or items l.place due ≡ due = sym c.index.ensures in
    let here : drop l.place items ≡ due ∷ drop (l.place + 1) items =
    drop_more items l.place due within ∙ ap (λ d. d ∷ drop (l.place + 1) items) same in
    record {
      none = was.none;
      within = omega (arith, was.within);
      len = length-set items l.kept due ∙ was.len;
      dues = λ t le. (let so = rw here at (was.dues t le) in
          rw (kept, left, over_more (take l.kept items) due t) (omega (arith, so)));
      next = λ t lt. rw (kept, over_more (take l.kept items) due t)
          (grind (arith, nat_tests, was.next t, lt, first));
      wait = rw (kept, over_more (take l.kept items) due c.args.time)
          (grind (arith, nat_tests, was.wait, c.if-is_over.false, c.is_over.ensures));
    }
