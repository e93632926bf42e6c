-- One set more.
use Rattle.dnssec_judge.proofs.Base.{◌≤◌, arith, IsWithin, length, take, take_all, take_more}
use Rattle.dnssec_judge.proofs.OneByOne.Windows.{common_more}
use Rattle.std.proofs.lemmas.List.Elements.{All-push}
use Rattle.dnssec_judge.proofs.window.spans.Spans.common_with.Goals as goal

pub returns-in-Some-clause-each : goal.returns-in-Some-clause-each
returns-in-Some-clause-each c =
    let so = c.in_ok-common.ensures in let was = c.args.self.now in
    (common_more c.in_ok-common.common c.deref.result.now c.args.set.now was.list.items so.keys
    so.signers (rw c.deref.ensures (was.in_each c.in-Some.common c.in-Some.is))).1

pub loop-place-preserved : goal.loop-place-preserved
loop-place-preserved c =
    let place = c.loop-place.place in let s = c.index.result.now in
    let so = c.in_ok-common-3.ensures in let common = c.in_ok-common-3.common in
    let was = c.loop-place.invariant in let spans = take place c.args.self.now.list.items in
    let new = common_more common c.loop-place.common s.set spans so.keys so.signers was.each in
    record {
      each = rw (take_more c.args.self.now.list.items place s
          (omega (arith, c.loop-place-test.true, c.len-place-end.ensures)))
          (rw (← c.index.ensures) (All-push (λ s. IsWithin common s.set) spans s new.1 new.0));
      set = record {
        keys = λ n b. grind (arith, so.keys n, b, was.set.keys n);
        signers = λ n b. grind (arith, so.signers n, b, was.set.signers n);
      };
    }

pub returns-clause-each : goal.returns-clause-each
returns-clause-each c =
    let spans = c.args.self.now.list.items in let past : length spans ≤ c.loop-place.place =
    omega (arith, c.loop-place-test.false, c.len-place-end.ensures) in
    rw (take_all c.loop-place.place spans past) at c.loop-place.invariant.each
