-- The waits so far, and that of the call.
use Rattle.std.proofs.Common.{◌∙◌, sym}
use Rattle.std.specs.Prelude.{if◌then◌else◌, Some}
use Rattle.dnssec_policy.specs.Code.{accepted_wait, is_wait_of, last_of}
use Rattle.dnssec_policy.proofs.Growing.{lasts-follow}
use Rattle.dnssec_policy.proofs.last_waits.LastWaits.after.Goals as goal

pub returns-clause-follows : goal.returns-clause-follows
returns-clause-follows c calls entries call entry count was wait reply at roll =
    let old = last_of c.args.self roll in
    let of_call = c.accepted_wait.ensures ∙ (λ i. accepted_wait (sym reply i) (sym wait i)) in
    c.put.ensures roll ∙ (λ i. if is_wait_of roll (of_call i) then Some (at i) else old)
    ∙ lasts-follow calls entries call entry roll old count (was roll)
