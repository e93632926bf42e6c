-- No key moves, or the set of before is changed.
use Rattle.dnssec_judge.proofs.Base.{[], ◌∙◌, ◌∷◌, ◌≡◌, ap, AreNumbered, arith, Change, get_or}
use Rattle.dnssec_judge.proofs.Base.{IsAfter, IsTable, kind_of, latest, length, List, refl, subst}
use Rattle.dnssec_judge.proofs.Base.{Span, suc, sym, true≢false}
use Rattle.dnssec_judge.proofs.OneByOne.More.{last-set}
use Rattle.dnssec_judge.proofs.window.Window.change.Goals as goal

pub returns-then-not-is_other : goal.returns-then-not-is_other
returns-then-not-is_other c = record {
  is = sym c.if-not-is_other.true ∙ c.is_other.ensures;
  kept = refl;
  set = ([], []);
  after = λ e. absurd (true≢false (sym e));
  spans = refl;
}

one-only : (cs : List Change) (d : Change) → length cs ≡ 1 → get_or cs 0 d ∷ [] ≡ cs
one-only [] d h = absurd (omega (arith, h))
one-only (c ∷ []) d h = refl
one-only (c ∷ x ∷ cs) d h = absurd (omega (arith, h))

pub returns-in-Some : goal.returns-in-Some
returns-in-Some c = record {
  is = sym c.if-not-is_other.false ∙ c.is_other.ensures;
  kept = refl;
  set = c.in-Some.set;
  after = λ e. subst (λ changes. IsTable c.args.numbers.now
      → AreNumbered c.args.numbers.now changes → IsAfter c.args.numbers.now
      (kind_of c.args.kind) changes (latest c.args.self.now.spans.list.items) c.in-Some.set)
      (ap (λ (m : Change). m ∷ []) c.index-changes-0.is
      ∙ one-only c.args.changes.now c.index-changes-0.result c.if-changes-eq1.true)
      c.in-Some.ensures;
  spans = c.in_ok-begin.ensures;
}

pub returns : goal.returns
returns c =
    let items = c.args.self.now.spans.list.items in let place = c.in-Some-checked_sub.place in
    let s = c.index.result.now in let len : length items ≡ suc place =
    omega (arith, c.in-Some-checked_sub.ensures, c.len.ensures) in record {
      is = sym c.if-not-is_other.false ∙ c.is_other.ensures;
      kept = refl;
      set = c.in_ok-set.set;
      after = λ _ t numbered. subst (λ set. IsAfter c.args.numbers.now (kind_of c.args.kind)
          c.args.changes.now set c.in_ok-set.set)
          (ap (λ (s : Span). s.set) c.index.ensures ∙ last-set items place s len)
          (c.in_ok-set.ensures t numbered);
      spans = c.in_ok-begin-2.ensures;
    }
