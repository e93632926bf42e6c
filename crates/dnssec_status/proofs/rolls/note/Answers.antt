use Rattle.std.proofs.{Common.sym, Common.subst, lemmas.List.Elements.All-push}
use Rattle.std.specs.List.{All}
use Rattle.dnssec_keyset.specs.WaitEnd.{SaysEnd}
use Rattle.dnssec_status.specs.declared.rolls.RollInProgress.{RollInProgress}
use Rattle.dnssec_status.proofs.rolls.note.Goals as goal

pub returns-in_ok-push-in-Some-clause-ends : goal.returns-in_ok-push-in-Some-clause-ends
returns-in_ok-push-in-Some-clause-ends c = λ all.
    let ends = λ (g : RollInProgress). SaysEnd g.roll c.args.keyset.now g.end in
    subst (All ends) (sym c.in_ok-push-in-Some.ensures.items)
    (All-push ends c.args.rolls.now.items _ all c.wait_end-end.ensures)
