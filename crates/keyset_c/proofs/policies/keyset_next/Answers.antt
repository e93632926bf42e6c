-- What was handed out, or is too long, is what the policy says, or why it says nothing.
use Rattle.std.proofs.Common.{ap, inl, inr, length, string_bytes, subst, sym, ◌∙◌}
use Rattle.dnssec_policy.specs.Automatic.Answer.{AnswersNext}
use Rattle.dnssec_policy.specs.Automatic.Faults.{next_fault_text}
use Rattle.keyset_c.proofs.policies.keyset_next.Goals as goal

pub returns-in-Ok-clause-said : goal.returns-in-Ok-clause-said
returns-in-Ok-clause-said c = λ answered.
    let a = c.args in
    subst (AnswersNext a.policy.now a.script.now a.notes.now a.seconds)
    (sym (c.hand_out.ensures.written answered ∙ c.as_bytes.ensures.value)) c.in-Ok.ensures

pub returns-in-Ok-clause-needed : goal.returns-in-Ok-clause-needed
returns-in-Ok-clause-needed c = λ short. inl (
  string_bytes c.in-Ok.line,
  c.in-Ok.ensures,
  ap length (sym c.as_bytes.ensures.value) ∙ sym c.hand_out.ensures.length,
)

pub returns-in-Err-clause-why : goal.returns-in-Err-clause-why
returns-in-Err-clause-why c = λ refused. (c.in-Err.why, c.refuse.ensures.why refused)

pub returns-in-Err-clause-needed : goal.returns-in-Err-clause-needed
returns-in-Err-clause-needed c = λ short.
    let why = c.in-Err.why in
    inr (next_fault_text why, (why, λ i. next_fault_text why), sym (c.refuse.ensures.needed short))
