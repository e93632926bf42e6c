-- All keys are in the list, in the order that they have in the tree.
use Rattle.std.proofs.Common.{◌≡◌, ◌∙◌, ◌++◌, ap, append-nil, map, subst, sym}
use Rattle.dnssec_run.specs.Adds.{IsAscending, by_text, listed_of, listing_of}
use Rattle.dnssec_run.proofs.Trees.{ascending-by_text, find-by_text}
use Rattle.dnssec_run.proofs.many.list_of.Goals as goal

pub returns-clause-ascending : goal.returns-clause-ascending
returns-clause-ascending c =
    let all : map listed_of c.loop-reference.keys.items ≡ by_text c.args.tree.now.entries =
    sym (append-nil _) ∙ ap (λ es. map listed_of c.loop-reference.keys.items ++ by_text es)
    (sym c.in-None.ensures.steps.0) ∙ c.loop-reference.invariant in
    subst IsAscending (sym all) (ascending-by_text _ c.len.ensures.ordered)

pub returns-clause-same : goal.returns-clause-same
returns-clause-same c q =
    let all : map listed_of c.loop-reference.keys.items ≡ by_text c.args.tree.now.entries =
    sym (append-nil _) ∙ ap (λ es. map listed_of c.loop-reference.keys.items ++ by_text es)
    (sym c.in-None.ensures.steps.0) ∙ c.loop-reference.invariant in
    ap (λ es. listing_of es q) all ∙ find-by_text c.args.tree.now.entries q
