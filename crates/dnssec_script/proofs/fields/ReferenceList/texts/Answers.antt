-- The parts are those that `split` gives, and each is a reference.
use Rattle.std.proofs.Common.{◌≡◌, ◌∷◌, ◌==◌, ◌∙◌, length, ap, arith, rules, tests, true}
use Rattle.std.proofs.lemmas.Iterator.Consumers.{YieldsList-end, YieldsList-turn}
use Rattle.std.proofs.lemmas.Iterator.Splits.{YieldsList-from_slice_split}
use Rattle.std.proofs.lemmas.List.Sums.{AllPass-from_list_all}
use Rattle.std.specs.List.{list_all, slice_split}
use Rattle.std.specs.Slice.Iter as slice
use Rattle.dnssec_script.specs.{Inner.Reading.parts_left, Script.is_reference}
use Rattle.dnssec_script.proofs.Ascii.{reference_utf8}
use Rattle.dnssec_script.proofs.fields.ReferenceList.texts.Goals as goal

pub from_utf8_unchecked-requires : goal.from_utf8_unchecked-requires
from_utf8_unchecked-requires c =
    let first = c.split_once.result.0.now in
    let parts = first ∷ parts_left 44 c.split_once.result.1 in
    let all : list_all is_reference parts ≡ true =
    rw c.split_once.ensures at (rw c.in-Some.is at c.self.invariant) in
    reference_utf8 first (AllPass-from_list_all is_reference parts all 0 first (omega arith))

pub from_utf8_unchecked-requires-in-loop-part : goal.from_utf8_unchecked-requires-in-loop-part
from_utf8_unchecked-requires-in-loop-part c =
    let text = c.in-Some.text.now in let split = c.split-part-items.ensures in
    let same = c.into_iter-part-iterator.ensures.into_iter_gives in
    let part = c.in-Some-part.part in
    let turn = YieldsList-turn (YieldsList-from_slice_split {s = c.into_iter-part-iterator.result} _
    (λ b. b == 44) text (ap slice.split_rest same ∙ split.rest)
    (ap slice.split_done same ∙ split.done) (ap slice.split_callee same ∙ split.closure)
    (λ x b q k. search (rules, tests))) c.loop-part.yielded _ c.loop-part.yielded_by _ _ part
    c.in-Some-part.is c.next.ensures.steps in
    let each = AllPass-from_list_all is_reference (slice_split (λ b. b == 44) text)
    (rw c.in-Some.is at c.self.invariant) in
    reference_utf8 part.now
    (ap is_reference turn.1 ∙ each (length c.loop-part.yielded) part.now turn.0)

pub returns : goal.returns
returns c =
    let text = c.in-Some.text.now in let split = c.split-part-items.ensures in
    let same = c.into_iter-part-iterator.ensures.into_iter_gives in
    let at = c.loop-part in
    let end = YieldsList-end (YieldsList-from_slice_split {s = c.into_iter-part-iterator.result} _
    (λ b. b == 44) text (ap slice.split_rest same ∙ split.rest)
    (ap slice.split_done same ∙ split.done) (ap slice.split_callee same ∙ split.closure)
    (λ x b q k. search (rules, tests))) at.yielded _ at.yielded_by _ _ c.in-None.is
    c.next.ensures.steps in
    at.invariant ∙ end.0 ∙ (rw c.in-Some.is at c.self.view_is)
