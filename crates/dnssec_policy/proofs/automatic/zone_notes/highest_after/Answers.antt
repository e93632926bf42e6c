-- Each turn looks at one more fact.
use Rattle.std.proofs.Common.{◌≡◌, ◌+◌, ◌<◌, ◌++◌, ◌∷◌, ◌∙◌, [], List, ap, arith, length, subst}
use Rattle.std.proofs.{Common.sym, Common.take, lemmas.List.take_all, lemmas.List.take_more}
use Rattle.dnssec_network.specs.declared.fact.Fact.{Fact}
use Rattle.dnssec_policy.specs.Text.Lint.{AreHighest}
use Rattle.dnssec_policy.proofs.Zone.Facts.{as-many, fact-at}
use Rattle.dnssec_policy.proofs.automatic.zone_notes.highest_after.Goals as goal

pub loop-line-init : goal.loop-line-init
loop-line-init c = λ moments facts are. c.of_before-highest.ensures

pub loop-line-preserved : goal.loop-line-preserved
loop-line-preserved c = λ moments facts are.
    let xs = c.args.lines.now in let i = c.loop-line.line-index in
    let (f, said, here) = fact-at xs facts i are.said c.loop-line-test.true in
    let within : i < length xs = c.loop-line-test.true in
    let many = as-many xs facts are.said in
    let more : take (i + 1) facts ≡ take i facts ++ f ∷ [] =
    take_more facts i f (omega arith) ∙ ap (λ (g : Fact). take i facts ++ g ∷ []) (sym here) in
    subst (λ (fs : List Fact). AreHighest c.args.before.now fs c.with_line-highest.result)
    (sym more)
    (c.with_line-highest.ensures c.args.before.now (take i facts) f said
    (c.loop-line.invariant moments facts are))

pub returns : goal.returns
returns c = λ moments facts are.
    let i = c.loop-line.line-index in
    let many = as-many c.args.lines.now facts are.said in
    let past = c.loop-line-test.false in
    subst (λ (fs : List Fact). AreHighest c.args.before.now fs c.loop-line.highest)
    (take_all i facts (omega arith)) (c.loop-line.invariant moments facts are)
