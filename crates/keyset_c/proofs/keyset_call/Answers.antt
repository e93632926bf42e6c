-- What made the call is what the session keeps, with its answer.
use Rattle.std.proofs.Common.{ap, arith, length, refl, string_bytes, sym, ◌∙◌}
use Rattle.keyset_c.proofs.Opened.{calls}
use Rattle.keyset_c.proofs.keyset_call.Goals as goal

pub returns-clause-answered : goal.returns-clause-answered
returns-clause-answered c = λ answered.
    calls c.in-Some.ensures.taken c.put-2.ensures.kept
    (rw (← c.deref_mut.ensures.value) (c.call-status.ensures.called (omega arith)))
    (cc (c.as_bytes.ensures.value, c.deref.ensures, c.hand_out-answered.ensures.written answered))

pub returns-clause-needed : goal.returns-clause-needed
returns-clause-needed c = λ short. (
  string_bytes c.call-status.new.kept.answer,
  calls c.in-Some.ensures.taken c.put-2.ensures.kept
      (rw (← c.deref_mut.ensures.value) (c.call-status.ensures.called (omega arith))) refl,
  ap length (cc (c.as_bytes.ensures.value, c.deref.ensures))
      ∙ sym c.hand_out-answered.ensures.length,
)

pub returns-clause-malformed : goal.returns-clause-malformed
returns-clause-malformed c = λ malformed.
    absurd (omega (arith, c.hand_out-answered.ensures.status))

pub returns-clause-memory : goal.returns-clause-memory
returns-clause-memory c = λ memory. absurd (omega (arith, c.hand_out-answered.ensures.status))

pub returns-clause-lost_line : goal.returns-clause-lost_line
returns-clause-lost_line c = λ lost. absurd (omega (arith, c.hand_out-answered.ensures.status))

pub returns-clause-lost : goal.returns-clause-lost
returns-clause-lost c = λ lost. absurd (omega (arith, c.hand_out-answered.ensures.status))

pub returns-clause-closed : goal.returns-clause-closed
returns-clause-closed c = (
  λ closed. absurd (omega (arith, c.hand_out-answered.ensures.status)),
  λ none. cc (c.in-Some.ensures.taken),
)
