-- Each turn writes one more after a comma.
use Rattle.dnssec_status.proofs.Chains.{further_more}
use Rattle.dnssec_status.proofs.json.push_array.Goals as goal

pub loop-element-preserved : goal.loop-element-preserved
loop-element-preserved g c =
    further_more _ _ _ c.element-item.result _ c.loop-element.invariant
    c.in_ok-push_bytes-2.ensures (rw (← c.element-item.is) c.in_ok-push-2.ensures)
    c.loop-element-test.true
