-- The first entry with a fault is refused.
use Rattle.std.proofs.Common.{rules, arith, ◌∙◌}
use Rattle.dnssec_zone.proofs.Marks.{fault-from, new-fault, old-fault}
use Rattle.dnssec_zone.proofs.keys.Keys.check_new.Goals.{then-is_listed, else-is_listed}
use Rattle.dnssec_zone.proofs.keys.Keys.check_new.Goals as goal

pub returns-in_err-key-clause-fault : goal.returns-in_err-key-clause-fault
returns-in_err-key-clause-fault c =
    rw (fault-from _ _ _ c.args.new.now c.loop-i.i _ c.loop-i-test.true _ _ c.loop-i.invariant.0
    (old-fault c.args.roll _ _ _ c.in_err-key.ensures.fault)) (search rules)

pub returns-in_err-add-clause-fault : goal.returns-in_err-add-clause-fault
returns-in_err-add-clause-fault c =
    rw (fault-from _ _ _ c.args.new.now c.loop-i.i _ c.loop-i-test.true _ _ c.loop-i.invariant.0
    (new-fault c.args.roll _ c.in_ok-key.key.now _ c.if-is_listed.is_taken
    c.in_ok-key.ensures.sound c.in_ok-key.ensures.key (elim c.if-is_listed.branch [
      | then-is_listed w ↦ grind (arith, w.is_taken-is, w.if-is_listed.true, c.is_listed.ensures)
      | else-is_listed w ↦ grind (
        arith,
        w.is_taken-is,
        w.if-is_listed.false,
        c.is_listed.ensures,
        w.is_listed-is_taken.ensures,
      )
    ]) ∙ c.in_err-add.ensures.fault)) (search rules)
