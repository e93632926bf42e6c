-- Each part between commas is a reference, or the whole text is one.
use Rattle.std.proofs.Common.{◌≡◌, ◌==◌, ◌∙◌, arith, rules, sym, tests, true}
use Rattle.std.proofs.lemmas.Iterator.Search.{all_from_yields_List}
use Rattle.std.proofs.lemmas.Iterator.Splits.{YieldsList-from_slice_split}
use Rattle.std.specs.List.{list_all, slice_split}
use Rattle.dnssec_script.specs.Script.{as_list, is_list, is_reference, references_of}
use Rattle.dnssec_script.proofs.Cuts.{one_reference}
use Rattle.dnssec_script.proofs.fields.Fields.list.Goals as goal

pub returns-then-eq : goal.returns-then-eq
unfolding as_list is_list references_of
returns-then-eq c = search rules

pub invariant_of-result-then-is_reference : goal.invariant_of-result-then-is_reference
invariant_of-result-then-is_reference c =
    let text = c.in_ok-text.text.now in
    let one : is_reference text ≡ true = sym c.is_reference.ensures ∙ c.if-is_reference.true in
    rw (one_reference text one) (grind (arith, one))

pub returns-then-is_reference : goal.returns-then-is_reference
unfolding as_list is_list references_of
returns-then-is_reference c = search (rules, invariant_of-result-then-is_reference c)

pub returns-then-not-all : goal.returns-then-not-all
unfolding as_list is_list
returns-then-not-all c =
    let split = c.split.ensures in
    let each = all_from_yields_List is_reference _ _ c.all.result c.all.ensures.ran
    (YieldsList-from_slice_split {s = c.split.result} _ (λ b. b == 44) c.in_ok-text.text.now
    split.rest split.done split.closure (λ x b q k. search (rules, tests)))
    (λ x b q k. search rules) in
    search (rules, each)

pub invariant_of-result-2 : goal.invariant_of-result-2
invariant_of-result-2 c =
    let text = c.in_ok-text.text.now in let split = c.split.ensures in
    let each : c.all.result ≡ list_all is_reference (slice_split (λ b. b == 44) text) =
    all_from_yields_List is_reference _ _ c.all.result c.all.ensures.ran
    (YieldsList-from_slice_split {s = c.split.result} _ (λ b. b == 44) text split.rest split.done
    split.closure (λ x b q k. search (rules, tests))) (λ x b q k. search rules) in
    search (rules, each)

pub returns : goal.returns
unfolding as_list is_list references_of
returns c = search (rules, invariant_of-result-2 c)
