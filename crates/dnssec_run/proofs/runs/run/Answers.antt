-- Each turn of the loop adds one call and its entry to the record.
use Rattle.std.proofs.Common.{◌≡◌, suc, List, [], ◌∷◌, ◌++◌, length, refl, sym, ap, subst, ◌∙◌}
use Rattle.std.proofs.Common.{append_assoc, append-nil, arith, rules, length-append}
use Rattle.std.specs.{Prelude.vec_len, Vec.Iter.into_iter_items}
use Rattle.dnssec_run.specs.Record.{IsRun, call_of, reply_of, world_at}
use Rattle.dnssec_run.proofs.Chain.Trust.{chain-holds, each-holds}
use Rattle.dnssec_run.proofs.Asked.{Changes.changes-as-asked, Reports.retires-as-asked}
use Rattle.dnssec_run.proofs.{EarlyEnds.Undoing.undoes-starts, WholeRolls.Order.never-misses}
use Rattle.dnssec_run.proofs.WholeRolls.{Order.settles-between, Waits.waits-exactly}
use Rattle.dnssec_run.proofs.WholeRolls.Completion.{goes-on, rolls-finish}
use Rattle.dnssec_run.proofs.Laws.{stays-sound}
use Rattle.dnssec_keyset.proofs.{Sides.leaves-others, Exchange.Law.exchange}
use Rattle.dnssec_run.proofs.runs.run.Goals as goal

nothing_left : {X : Type 0} (l : List X) → length l ≡ 0 → l ≡ []
nothing_left [] h = refl
nothing_left (x ∷ xs) h = absurd (omega arith)

pub loop-call-init : goal.loop-call-init
loop-call-init c = record {
  left = refl;
  count = search rules;
  records = rw c.in_ok-entries.ensures.items c.new-recorder.ensures;
  room = search rules;
}

pub loop-call-preserved : goal.loop-call-preserved
loop-call-preserved c =
    let at = c.loop-call in
    let inv = at.invariant in
    let x = c.in-Some.call in
    let steps : into_iter_items at.call-iterator ≡ x ∷ into_iter_items c.next.new.self =
    c.in-Some.ensures.steps.0 in
    let count : length (at.yielded ++ x ∷ []) ≡ suc (length at.yielded) = let l =
    length-append at.yielded (x ∷ []) in omega arith in
    record {
      left = append_assoc at.yielded (x ∷ []) _ ∙ rw (← steps) inv.left;
      count = let was = inv.count in let gone = c.in-Some.ensures.steps.1 in
          let short = ap length steps in omega arith;
      records = rw c.push_reserved.ensures.items
          (c.in_ok-make.ensures.ok c.args.name at.yielded at.entries.items inv.records);
      room = let short = ap length steps in
          omega (arith, inv.room, count, c.push_reserved.ensures.capacity);
    }

pub returns : goal.returns
returns c =
    let at = c.loop-call in
    let none = c.in-None.ensures.steps in
    let empty : into_iter_items at.call-iterator ≡ [] =
    nothing_left _ (sym at.invariant.count ∙ none.0) in
    let all : at.yielded ≡ c.args.calls.items = sym (append-nil at.yielded)
    ∙ rw empty at at.invariant.left ∙ c.into_iter-call-iterator.ensures.into_iter_gives.0 in
    let run : IsRun c.args.name c.args.calls.items at.entries.items =
    subst (λ l. IsRun c.args.name l at.entries.items) all at.invariant.records.run in
    let long : vec_len at.entries ≡ length at.entries.items = search rules in
    let count : length at.yielded ≡ vec_len at.entries =
    sym at.invariant.records.run.count ∙ sym long in
    record {
      run = run;
      keyset = c.into_keyset.ensures ∙ at.invariant.records.agrees.same
          ∙ (λ i. (world_at c.args.name (all i) at.entries.items (count i)).set);
      sound = stays-sound run;
      sides = λ n call entry ci ei. leaves-others _ _ (call_of call) (reply_of entry.reply)
          (run.each n call entry ci ei).step;
      exchange = λ n first second e f ci ei di fi apart. exchange _ _ _ (call_of first)
          (call_of second) (reply_of e.reply) (reply_of f.reply) apart
          (run.each n first e ci ei).step (run.each (suc n) second f di fi).step;
      stamps = never-misses run;
      settled = settles-between run;
      waits = waits-exactly run;
      goes_on = goes-on run;
      finishes = rolls-finish run;
      undoes = undoes-starts run;
      changes = changes-as-asked run;
      retires = retires-as-asked run;
      chain = chain-holds _ _ _ run;
      each_chain = each-holds _ _ _ run;
      err = search rules;
    }
