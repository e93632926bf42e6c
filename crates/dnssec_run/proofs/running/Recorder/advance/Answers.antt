-- A call that is made adds one call and its entry to the record.
use Rattle.std.proofs.Common.{◌≡◌, ◌∙◌, List, ap, refl, rules, subst, sym, true}
use Rattle.std.proofs.Common.{arith, false, length, ℕ, Bool}
use Rattle.std.specs.{Prelude.Option, Prelude.◌||◌, List.list_any}
use Rattle.std.{proofs.lemmas.Bool.or_parts, specs.Prelude.is_some}
use Rattle.dnssec_keyset.specs.KeySet.{KeySetParts}
use Rattle.dnssec_run.specs.Adds.{listing_in}
use Rattle.dnssec_run.specs.Asked.{asked_by, kind_shown, updates}
use Rattle.dnssec_run.specs.Record.{call_of, is_accepted, reply_of, world_after, world_at}
use Rattle.dnssec_run.specs.Recorder.{Renews, SaysShown, listing_after, reference_set}
use Rattle.dnssec_run.proofs.Advance.{asks-all, goes-accepted, goes-refused, some-change}
use Rattle.dnssec_run.proofs.Advance.{unchanged}
use Rattle.dnssec_run.proofs.Asked.Changes.{leaves, says-shown, touches-asked}
use Rattle.dnssec_run.proofs.Next.{mark-accepted, mark-refused}
use Rattle.dnssec_keyset.specs.Step as keyset
use Rattle.dnssec_run.proofs.running.Recorder.advance.Goals as goal

pub returns-in-Refused-clause-ok : goal.returns-in-Refused-clause-ok
returns-in-Refused-clause-ok c name calls entries e says listed so =
    let x = c.args.call in
    let r = c.make-reply.result in
    let no : is_accepted r ≡ false = search rules in
    goes-refused name calls entries _ _ x _ e so says listed (omega (arith, c.in-Some.ensures))
    c.make-reply.ensures (mark-refused x r no) c.in_ok-meaning.ensures.moment no refl
    c.clear.ensures.items

pub returns : goal.returns
returns c = record {
  ok = λ name calls entries e says listed so.
      let x = c.args.call in
      let r = c.make-reply.result in
      let n = c.in-Some.at in
      let ok : is_accepted r ≡ true = search rules in
      let means = c.in_ok-meaning.ensures in
      let renewed = c.in_ok-may_publish.ensures in
      let set : c.renew.new.self.keyset ≡ c.make-reply.new.set = renewed.keyset in
      let at : c.renew.new.self.at ≡ n = renewed.at in
      let touched = c.touched-touched.result in
      let step : keyset.Step c.args.self.now.keyset (call_of x) (reply_of r)
      c.renew.new.self.keyset =
      subst (keyset.Step c.args.self.now.keyset (call_of x) (reply_of r)) (sym set)
      c.make-reply.ensures in
      let known = listing_in c.args.self.now.added.kept in
      let before = world_at name calls entries (length calls) in
      goes-accepted name calls entries c.args.self.now c.renew.new.self x _ e so says listed
      (omega (arith, at, c.in-Some.ensures)) step (means.mark ∙ mark-accepted x r ok)
      means.moment ok c.note.new.added.kept c.note.new.added.in_order
      (λ q. c.in_ok-self.ensures q ∙ (λ i. listing_after (sym at i) (means.put i)
      (means.taken i) known q)) touched c.in_ok-meaning.meaning.is_shown
      c.in_ok-may_publish.may_publish
      (λ same. leaves c.renew.new.self.at before (world_after c.renew.new.self.at before x r) x r
      (subst (λ (t : KeySetParts × KeySetParts).
      keyset.Step t.0 (call_of x) (reply_of r) t.1) (λ i. (so.agrees.same i, same i)) step) refl
      touched (λ list no t. let p = or_parts _ _ (sym (c.touched-touched.ensures list) ∙ no) in
      (sym (means.shown list) ∙ p.0, p.1)))
      (subst (λ (k : Option Bool × KeySetParts). SaysShown k.0 touched (reference_set (call_of x))
      k.1) (λ i. (sym means.says i, sym set i))
      (says-shown c.args.self.now.keyset c.make-reply.new.set (call_of x) r touched ok
      c.make-reply.ensures (λ list. c.touched-touched.ensures list
      ∙ ap (λ b. b || list_any (updates (kind_shown list)) (asked_by r)) (means.shown list))))
      (subst (λ (k : Option (List ℕ) × KeySetParts). Renews k.0 touched
      c.in_ok-meaning.meaning.is_shown k.1 c.note.new.added.kept c.renew.new.self.added.kept
      c.renew.new.self.changes.items c.in_ok-may_publish.may_publish)
      (λ i. (means.only i, sym set i)) renewed.renewed);
  kept = λ none. unchanged _ _ _ _ _ _ _ _ c.in_ok-may_publish.ensures.renewed none;
  asked = λ none. asks-all _ _ _ _ _ _ _ _ c.in_ok-may_publish.ensures.renewed
      (c.in_ok-meaning.ensures.only ∙ none)
      ∙ touches-asked (call_of c.args.call) c.make-reply.result c.in_ok-meaning.meaning.sets_shown
      c.touched-touched.result none c.in_ok-meaning.ensures.shown c.touched-touched.ensures;
  by_hand = λ some changed. some-change _ _ _ _ _ _ _ _ c.in_ok-may_publish.ensures.renewed
      (ap is_some c.in_ok-meaning.ensures.only ∙ some) changed;
  err = tt;
}
