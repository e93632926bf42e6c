-- The last span has the latest set.
use Rattle.dnssec_judge.proofs.Base.{[], ◌∙◌, ◌∷◌, ◌≡◌, ap, arith, IsAfter, kind_of, length, None}
use Rattle.dnssec_judge.proofs.Base.{Option, refl, Some, Span, subst, suc}
use Rattle.dnssec_judge.proofs.OneByOne.More.{last-set}
use Rattle.std.specs.Option.{IfSome}
use Rattle.dnssec_judge.proofs.window.spans.Spans.changed_once.Goals as goal

weaker : {A : Type 0} {P Q : A → Type 0} (o : Option A) → ((a : A) → P a → Q a) → IfSome o P
    → IfSome o Q
weaker None f h = tt
weaker (Some a) f h = f a h

pub returns-in-Some-find : goal.returns-in-Some-find
returns-in-Some-find c =
    let items = c.args.self.now.list.items in let place = c.in-Some.place in
    let s = c.index.result.now in let len : length items ≡ suc place =
    omega (arith, c.in-Some.ensures, c.len.ensures) in
    let t = c.args.numbers.now in let change = c.args.change.now in
    weaker c.changed_once.result (λ set after table numbered.
    subst (λ old. IsAfter t (kind_of c.args.kind) (change ∷ []) old set)
    (ap (λ (s : Span). s.set) c.index.ensures ∙ last-set items place s len)
    (after t table c.in-Some-find.ensures.some (numbered change (0, omega arith, refl)).0))
    c.changed_once.ensures
