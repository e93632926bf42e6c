-- What is common is in one set more.
use Rattle.dnssec_judge.proofs.Base.{[], ◌++◌, ◌∙◌, ◌∷◌, ◌≡◌, ◌≤◌, All, arith, IsWithin, length}
use Rattle.dnssec_judge.proofs.Base.{Numbered, rules, Span, subst, sym}
use Rattle.dnssec_judge.proofs.OneByOne.More.{came-pushed}
use Rattle.dnssec_judge.proofs.window.spans.Spans.begin.Goals.{in-None, in-Some}
use Rattle.dnssec_judge.specs.declared.window.spans.TheConstants.{FEW}
use Rattle.std.proofs.{Common.length-append, lemmas.List.Elements.All-push}
use Rattle.dnssec_judge.proofs.window.spans.Spans.begin.Goals as goal

pub invariant_of-self-then-is_enough : goal.invariant_of-self-then-is_enough
invariant_of-self-then-is_enough c =
    let was = c.args.self.now in let items = was.list.items in
    let s : Span = record { from = c.args.from; set = c.args.set } in
    rw c.in_ok-push.ensures.ok (elim c.match-self.branch [
      | in-Some w ↦ (let found = w.deref in
          let within : IsWithin found.result.now s.set =
          w.is_within-is_enough.ensures (sym w.is_enough-is ∙ c.if-is_enough.true) in record {
            newest_is = sym (came-pushed items s);
            many = λ x e. omega (arith, was.many x e, length-append items (s ∷ []));
            in_each = λ x e. (let same : found.result.now ≡ x.value = cc found.ensures in
                All-push (λ s. IsWithin x.value s.set) items s (was.in_each x e)
                (subst (λ (x : Numbered). IsWithin x s.set) same within));
          })
      | in-None w ↦ record {
        newest_is = sym (came-pushed items s);
        many = λ x e. absurd (grind (arith, w.in-None.is, e));
        in_each = λ x e. absurd (grind (arith, w.in-None.is, e));
      }
    ])

pub invariant_of-self-2 : goal.invariant_of-self-2
invariant_of-self-2 c =
    let common = c.in_ok-common_with.field-0 in let so = c.in_ok-common_with.ensures in
    let was = c.args.self.now.list.items in
    let s : Span = record { from = c.args.from; set = c.args.set } in
    rw c.in_ok-push-2.ensures.ok record {
      newest_is = sym (came-pushed was s);
      many = λ x e. (let long : FEW ≤ length was = search rules in
          omega (arith, long, length-append was (s ∷ [])));
      in_each = λ x e. (let same : common ≡ x.value = cc c.in_ok-common.ensures.ok in
          subst (λ (x : Numbered). All (λ s. IsWithin x s.set) (was ++ s ∷ [])) same
          (All-push (λ s. IsWithin common s.set) was s so.each so.set));
    }
