-- Each turn writes one byte.
use Rattle.std.proofs.Common.{append-nil, append_assoc, arith, sym}
use Rattle.std.proofs.lemmas.List.{take_all}
use Rattle.dnssec_status.specs.Json.{text_json}
use Rattle.dnssec_status.proofs.Chains.{flat_map_more}
use Rattle.dnssec_status.proofs.json.push_text.Goals as goal

pub loop-byte-init : goal.loop-byte-init
loop-byte-init c = sym (append-nil _)

pub loop-byte-preserved : goal.loop-byte-preserved
loop-byte-preserved c =
    flat_map_more _ _ _ _ _ c.loop-byte.invariant c.in_ok-push_escaped.ensures
    c.loop-byte-test.true

pub returns : goal.returns
unfolding text_json
returns c =
    let all = take_all c.loop-byte.byte-index c.args.text.now c.loop-byte-test.false in
    grind (arith, append_assoc, all)
